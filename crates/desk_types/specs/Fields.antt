-- The forms of keys, headlines and links.
use Rattle.std.specs.Prelude.{ℕ, Bool, not, ◌==◌, ◌&&◌, ◌||◌, nat_le, nat_eq, List, length, codes}
use Rattle.std.specs.List.{list_all, starts_with}
use Rattle.desk_types.specs.declared.limits.TheConstants.{KEY_BYTES_MIN, KEY_BYTES_MAX, HEADLINE_BYTES_MAX, LINK_BYTES_MAX}

-- a visible character of ASCII
abbrev pub is_visible : ℕ → Bool
is_visible byte = nat_le 0x21 byte && nat_le byte 0x7E

-- a key: 8 to 64 visible characters
unfoldable pub is_key : List ℕ → Bool
is_key text = nat_le KEY_BYTES_MIN (length text) && (nat_le (length text) KEY_BYTES_MAX && list_all is_visible text)

-- a headline: 1 to 90 bytes, none of them a control character of ASCII
unfoldable pub is_headline : List ℕ → Bool
is_headline text =
    nat_le 1 (length text) && (nat_le (length text) HEADLINE_BYTES_MAX
    && list_all (λ byte. nat_le 0x20 byte && not (byte == 0x7F)) text)

-- a text that begins with a scheme of the web
abbrev pub has_scheme : List ℕ → Bool
has_scheme text = starts_with nat_eq text (codes "http://") || starts_with nat_eq text (codes "https://")

-- a link: 1 to 512 visible characters that begin with such a scheme
unfoldable pub is_link : List ℕ → Bool
is_link text = nat_le (length text) LINK_BYTES_MAX && (has_scheme text && list_all is_visible text)
