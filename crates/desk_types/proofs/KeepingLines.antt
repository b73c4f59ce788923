-- The lines that calls put, and the batches, are proper.
use Rattle.std.proofs.Common.{◌≡◌, ℕ, ◌+◌, ◌≤◌, Bool, true, ◌==◌, ◌&&◌, cond, inl, inr, List, [], ◌∷◌, ◌++◌, filter, length, map, Option, None, Some, is_some, option_map, refl, sym, ap, subst, ◌∙◌, arith}
use Rattle.std.specs.List.{count_by, list_all, range_with_len}
use Rattle.std.proofs.lemmas.Bool.{and_parts, and_from, cond-true, eq-eqb}
use Rattle.std.proofs.lemmas.List.{length-map}
use Rattle.match_types.specs.Marks.{trimmed}
use Rattle.auction_types.specs.declared.limits.TheConstants.{BID_MIN, BID_MAX, QUALITY_MIN, QUALITY_MAX}
use Rattle.desk_types.specs.declared.limits.TheConstants.{BATCH_MAX, LINES_MAX, QUALITY_NEW, ROWS_MAX}
use Rattle.desk_types.specs.declared.call.ImportRow.{ImportRow}
use Rattle.desk_types.specs.declared.refusal.Refusal.TheVariants.{LineThere}
use Rattle.desk_types.specs.declared.rows.Batch.{Batch}
use Rattle.desk_types.specs.declared.rows.Line.{Line}
use Rattle.desk_types.specs.declared.tables.Change.TheVariants.{PutLine, PutBatch}
use Rattle.desk_types.specs.declared.tables.Tables.{Tables}
use Rattle.desk_types.specs.Asked.{AskedLine, asked_by, line_made, lines_made}
use Rattle.desk_types.specs.Changes.{import_of, put_found}
use Rattle.desk_types.specs.Fields.{is_headline, is_link}
use Rattle.desk_types.specs.Judged.{bad_rows, import_rows, is_line_like, is_within, line_rows}
use Rattle.desk_types.specs.Keys.{is_same_key, line_key}
use Rattle.desk_types.specs.Rules.{has_account, has_campaign, is_good_batch, is_good_line}
use Rattle.desk_types.specs.State.{State}
use Rattle.desk_types.specs.Tables.{campaign_of, has_key, line_of, lines_of, put}
use Rattle.desk_types.proofs.Accepting.{from_not, lawful_line, no_cause, none_holds, not_when, some_from}
use Rattle.desk_types.proofs.EachRow.{Each, Each-mono}
use Rattle.desk_types.proofs.InOrder.{Ordered-from}
use Rattle.desk_types.proofs.KeepingProper.{AreProper, IsProperLine}
use Rattle.desk_types.proofs.KeepingPuts.{almost_put}
use Rattle.desk_types.proofs.KeepingRows.{list_all-run, none_found, none_same, numbered_there, only}
use Rattle.desk_types.proofs.KeepingStable.{stable_of}
use Rattle.desk_types.proofs.Kept.{IsAlmostKept}
use Rattle.desk_types.proofs.Lawful.{changed, found_all, found_has}
use Rattle.desk_types.proofs.Legality.{room_below}
use Rattle.desk_types.proofs.Numbering.{group_new, length_kept}
use Rattle.desk_types.proofs.Puts.{sum-put_new}

pub four : (a b c d : Bool) → a ≡ true → b ≡ true → c ≡ true → d ≡ true → (a && (b && (c && d))) ≡ true
four a b c d h k l m = and_from a (b && (c && d)) h (and_from b (c && d) k (and_from c d l m))

-- a campaign that was not refused is there
pub campaign_there : (T : Tables) (account campaign : ℕ) → has_account T account ≡ true → is_some (campaign_of T account campaign) ≡ true → has_campaign T account campaign ≡ true
campaign_there T account campaign h k = and_from (has_account T account) (is_some (campaign_of T account campaign)) h k

no_line : (o : Option Line) → option_map (λ l. LineThere l.number) o ≡ None → o ≡ None
no_line None h = refl
no_line (Some l) h = absurd cc

-- the line that is made for one that is not refused
pub proper_line : (S : State) (account : ℕ) (asked : AskedLine) → IsAlmostKept S → has_account S.tables account ≡ true → Each (λ o. o ≡ None) (line_rows S.tables account asked) → IsProperLine S.tables (line_made S.tables account asked)
proper_line S account asked h there none =
    let made : Line = line_made S.tables account asked in
    let new = group_new line_key (λ (l : Line). l.account) (λ l. l.number) made S.tables.lines (λ x. refl) h.numbered.lines refl in
    let bid = from_not (is_within BID_MIN BID_MAX asked.bid) (not_when _ _ none.1.0) in
    let headline = from_not (is_headline asked.headline) (not_when _ _ none.1.1.1.0) in
    let link = from_not (is_link asked.link) (not_when _ _ none.1.1.1.1.0) in
    record {
      good = four (is_headline asked.headline) (is_link asked.link) (is_within BID_MIN BID_MAX asked.bid) (is_within QUALITY_MIN QUALITY_MAX QUALITY_NEW) headline link bid refl;
      named = campaign_there S.tables account asked.campaign there (some_from (campaign_of S.tables account asked.campaign) (not_when _ _ none.0));
      alike = none_same line_key made (λ (k : Line). (k.campaign ≡ made.campaign) × (k.pattern ≡ made.pattern)) S.tables.lines new;
      new = inr (record {
        apart = none_found (is_line_like account asked.campaign (trimmed asked.pattern)) S.tables.lines (no_line _ none.1.1.1.1.1.0);
        room = room_below (lines_of S.tables account) LINES_MAX (not_when _ _ none.1.1.1.1.1.1.0);
      });
    }

-- a line that is found is put with another bid, quality or switch
pub proper_line_found : (S : State) (account number : ℕ) (new : Line → Line) (found : Option Line) → line_of S.tables account number ≡ found → IsAlmostKept S → ((l : Line) → line_key (new l) ≡ line_key l)
    → ((l : Line) → (new l).account ≡ l.account) → ((l : Line) → (new l).campaign ≡ l.campaign) → ((l : Line) → (new l).pattern ≡ l.pattern) → ((l : Line) → is_good_line l ≡ true → is_good_line (new l) ≡ true)
    → AreProper S (put_found (λ l. PutLine (new l)) found)
proper_line_found S account number new None is h key owner campaign pattern good = tt
proper_line_found S account number new (Some l) is h key owner campaign pattern good =
    let test = λ (k : Line). k.account == account && k.number == number in
    let fields = (found_all (λ (k : Line). is_good_line k ≡ true) test S.tables.lines l h.fields.lines is).0 in
    let named = (found_all (λ (k : Line). has_campaign S.tables k.account k.campaign ≡ true) test S.tables.lines l h.named.lines is).0 in (
      record {
        good = good l fields;
        named = (λ i. has_campaign S.tables (owner l i) (campaign l i)) ∙ named;
        alike = Each-mono (λ (k : Line). is_same_key (line_key k) (line_key l) ≡ true → k ≡ l) (λ (k : Line). is_same_key (line_key k) (line_key (new l)) ≡ true → (k.campaign ≡ (new l).campaign) × (k.pattern ≡ (new l).pattern)) S.tables.lines
            (λ k one same.
            let e = one (subst (λ w. is_same_key (line_key k) w ≡ true) (key l) same) in
            (ap (λ (x : Line). x.campaign) e ∙ sym (campaign l), ap (λ (x : Line). x.pattern) e ∙ sym (pattern l)))
            (only line_key test S.tables.lines l (Ordered-from line_key S.tables.lines h.in_order.lines) is);
        new = inl (subst (λ w. has_key line_key w S.tables.lines ≡ true) (sym (key l)) (found_has line_key test S.tables.lines l is));
      },
      tt,
    )

-- the fields of a line with another bid, or another quality
pub good_with_bid : (l : Line) (bid : ℕ) → is_good_line l ≡ true → is_within BID_MIN BID_MAX bid ≡ true → is_good_line (record l { bid = bid }) ≡ true
good_with_bid l bid h within =
    let first = and_parts (is_headline l.headline) (is_link l.link && (is_within BID_MIN BID_MAX l.bid && is_within QUALITY_MIN QUALITY_MAX l.quality)) h in
    let second = and_parts (is_link l.link) (is_within BID_MIN BID_MAX l.bid && is_within QUALITY_MIN QUALITY_MAX l.quality) first.1 in
    let third = and_parts (is_within BID_MIN BID_MAX l.bid) (is_within QUALITY_MIN QUALITY_MAX l.quality) second.1 in
    four (is_headline l.headline) (is_link l.link) (is_within BID_MIN BID_MAX bid) (is_within QUALITY_MIN QUALITY_MAX l.quality) first.0 second.0 within third.1

pub good_with_quality : (l : Line) (quality : ℕ) → is_good_line l ≡ true → is_within QUALITY_MIN QUALITY_MAX quality ≡ true → is_good_line (record l { quality = quality }) ≡ true
good_with_quality l quality h within =
    let first = and_parts (is_headline l.headline) (is_link l.link && (is_within BID_MIN BID_MAX l.bid && is_within QUALITY_MIN QUALITY_MAX l.quality)) h in
    let second = and_parts (is_link l.link) (is_within BID_MIN BID_MAX l.bid && is_within QUALITY_MIN QUALITY_MAX l.quality) first.1 in
    let third = and_parts (is_within BID_MIN BID_MAX l.bid) (is_within QUALITY_MIN QUALITY_MAX l.quality) second.1 in
    four (is_headline l.headline) (is_link l.link) (is_within BID_MIN BID_MAX l.bid) (is_within QUALITY_MIN QUALITY_MAX quality) first.0 second.0 third.0 within

-- the lines of a batch are there where the account has as many
lines_there : (S : State) (account from count : ℕ) → IsAlmostKept S → 1 ≤ from → from + count ≤ lines_of S.tables account + 1 → list_all (λ number. is_some (line_of S.tables account number)) (range_with_len from count) ≡ true
lines_there S account from count h low high =
    let test = λ (l : Line). l.account == account in
    let number = λ (l : Line). l.number in
    let own = filter test S.tables.lines in
    let many : length (map number own) ≡ count_by test S.tables.lines = length-map own number ∙ length_kept test S.tables.lines in
    list_all-run (λ n. is_some (line_of S.tables account n)) from count (λ n above below.
    numbered_there test number S.tables.lines 1 (length (map number own)) n (h.numbered.lines account) (omega (arith, low, above)) (omega (arith, many, below, high)))

one_more : (S : State) (account : ℕ) (asked : AskedLine) → IsAlmostKept S → lines_of (put S.tables (PutLine (line_made S.tables account asked))) account ≡ lines_of S.tables account + 1
unfolding put
one_more S account asked h =
    let made : Line = line_made S.tables account asked in
    let new = group_new line_key (λ (l : Line). l.account) (λ l. l.number) made S.tables.lines (λ x. refl) h.numbered.lines refl in
    let sums = sum-put_new line_key made (λ (l : Line). cond (l.account == account) 1 0) S.tables.lines new in
    omega (arith, sums, cond-true {A = ℕ} (account == account) 1 0 (eq-eqb account account refl))

-- the lines of an import, each behind those before it, and then the batch
proper_lines : (S : State) (account number : ℕ) (rows : List ImportRow) (b : Batch) → IsAlmostKept S → has_account S.tables account ≡ true → Each (λ o. o ≡ None) (bad_rows S.tables account number rows)
    → b.account ≡ account → is_good_batch b ≡ true → 1 ≤ b.first → b.first + b.count ≡ lines_of S.tables account + 1 + length rows → AreProper S (map PutLine (lines_made S.tables account rows) ++ PutBatch b ∷ [])
unfolding put
proper_lines S account number [] b h there none owner good low end =
    let lines = lines_there S account b.first b.count h low (omega (arith, end)) in
    let named : (has_account S.tables account && list_all (λ n. is_some (line_of S.tables account n)) (range_with_len b.first b.count)) ≡ true = and_from (has_account S.tables account) _ there lines in
    (record { good = good; named = subst (λ a. (has_account S.tables a && list_all (λ n. is_some (line_of S.tables a n)) (range_with_len b.first b.count)) ≡ true) (sym owner) named }, tt)
proper_lines S account number (row ∷ rows) b h there none owner good low end =
    let asked : AskedLine = asked_by row in
    let made : Line = line_made S.tables account asked in
    let accepted = none_holds (line_rows S.tables account asked) (no_cause number _ none.0) in
    let proper = proper_line S account asked h there accepted in
    let lawful = (lawful_line S account asked (stable_of S h) (from_not (is_within BID_MIN BID_MAX asked.bid) (not_when _ _ accepted.1.0))).0 in
    (proper, proper_lines (changed S (PutLine made)) account (number + 1) rows b (almost_put S (PutLine made) h lawful proper) there none.1 owner good low (omega (arith, end, one_more S account asked h)))

pub proper_import : (S : State) (account number : ℕ) (rows : List ImportRow) (found : Option Batch) → IsAlmostKept S → has_account S.tables account ≡ true → is_within 1 BATCH_MAX number ≡ true
    → Each (λ o. o ≡ None) (import_rows S.tables account found rows) → AreProper S (import_of S.tables account number rows found)
proper_import S account number rows (Some b) h there within none = tt
proper_import S account number rows None h there within none =
    let many = from_not (is_within 1 ROWS_MAX (length rows)) (not_when _ _ none.0) in
    proper_lines S account 1 rows _ h there none.1 refl (and_from (is_within 1 BATCH_MAX number) (is_within 1 ROWS_MAX (length rows)) within many) (omega arith) (omega arith)
