-- The texts of a drill.
use Rattle.std.specs.Prelude.{ℕ, ◌==◌, if◌then◌else◌, List, [], ◌∷◌, ◌++◌, get_or, codes, decimal}

-- the words, from 0 to 7
abbrev pub drill_words : List (List ℕ)
drill_words =
    codes "red" ∷ codes "blue" ∷ codes "tennis" ∷ codes "running" ∷ codes "cheap" ∷ codes "kids" ∷ codes "size"
    ∷ codes "sale" ∷ []

unfoldable pub drill_word : ℕ → List ℕ
drill_word number = get_or drill_words number []

-- the key of an account, and the headline and the link of a line of an account
abbrev pub drill_key : ℕ → List ℕ
drill_key account = codes "drillkey" ++ decimal account

abbrev pub drill_headline : ℕ → ℕ → List ℕ
drill_headline account line = codes "Ad " ++ (decimal account ++ (codes " " ++ decimal line))

abbrev pub drill_link : ℕ → ℕ → List ℕ
drill_link account line = codes "http://drill.example/" ++ (decimal account ++ (codes "/" ++ decimal line))

-- two words with a space between them, and what stands behind them
abbrev pub two_words : ℕ → ℕ → List ℕ → List ℕ
two_words first second behind = drill_word first ++ (codes " " ++ (drill_word second ++ behind))

-- the pattern of two words, in the marks of a kind: 0 exact, 1 phrase, 2 broad
abbrev pub drill_pattern : ℕ → ℕ → ℕ → List ℕ
drill_pattern kind first second =
    if kind == 0 then codes "[" ++ two_words first second (codes "]")
    else (if kind == 1 then codes "\"" ++ two_words first second (codes "\"")
    else drill_word first ++ (codes " " ++ drill_word second))
