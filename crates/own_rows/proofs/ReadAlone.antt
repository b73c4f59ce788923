-- What is read of an account reads the same in its rows alone.
use Rattle.std.proofs.Common.{◌≡◌, ℕ, Bool, not, ◌==◌, ◌&&◌, List, ap}
use Rattle.std.specs.Prelude.{bytes_eq}
use Rattle.match_types.specs.Marks.{trimmed}
use Rattle.match_types.specs.Pattern.{negative_text}
use Rattle.match_types.specs.Tests.{is_same_pattern}
use Rattle.desk_types.specs.declared.rows.Account.{Account}
use Rattle.desk_types.specs.declared.rows.Batch.{Batch}
use Rattle.desk_types.specs.declared.rows.Campaign.{Campaign}
use Rattle.desk_types.specs.declared.rows.Line.{Line}
use Rattle.desk_types.specs.declared.rows.Negative.{Negative}
use Rattle.desk_types.specs.declared.tables.Tables.{Tables}
use Rattle.desk_types.specs.Judged.{dropped_negative, has_live_negative, is_dropped_like, is_line_like, is_live_like, key_fits, live_negative, same_line}
use Rattle.desk_types.specs.Own.{rows_of}
use Rattle.desk_types.specs.Tables.{account_of, batch_of, campaign_of, campaigns_of, line_of, lines_of, negatives_of}
use Rattle.own_rows.proofs.Within.{IsWithin, any-within, count-within, find-within, itself}

-- a test of the account's rows and something more
pub part_of : {A : Type 0} (own test : A → Bool) → IsWithin own (λ x. own x && test x)
part_of own test = record { fails = λ x h. ap (λ b. b && test x) h }

pub account_own : (T : Tables) (k : ℕ) → account_of (rows_of T k) k ≡ account_of T k
account_own T k = find-within (λ (a : Account). a.number == k) (λ a. a.number == k) T.accounts (itself (λ (a : Account). a.number == k))

pub key_own : (T : Tables) (k : ℕ) (key : List ℕ) → key_fits (rows_of T k) k key ≡ key_fits T k key
key_own T k key =
    any-within (λ (a : Account). a.number == k) (λ a. a.number == k && bytes_eq a.key key) T.accounts (part_of (λ (a : Account). a.number == k) (λ a. bytes_eq a.key key))

pub campaign_own : (T : Tables) (k campaign : ℕ) → campaign_of (rows_of T k) k campaign ≡ campaign_of T k campaign
campaign_own T k campaign =
    find-within (λ (c : Campaign). c.account == k) (λ c. c.account == k && c.number == campaign) T.campaigns (part_of (λ (c : Campaign). c.account == k) (λ c. c.number == campaign))

pub line_own : (T : Tables) (k line : ℕ) → line_of (rows_of T k) k line ≡ line_of T k line
line_own T k line =
    find-within (λ (l : Line). l.account == k) (λ l. l.account == k && l.number == line) T.lines (part_of (λ (l : Line). l.account == k) (λ l. l.number == line))

pub batch_own : (T : Tables) (k batch : ℕ) → batch_of (rows_of T k) k batch ≡ batch_of T k batch
batch_own T k batch =
    find-within (λ (b : Batch). b.account == k) (λ b. b.account == k && b.number == batch) T.batches (part_of (λ (b : Batch). b.account == k) (λ b. b.number == batch))

pub campaigns_own : (T : Tables) (k : ℕ) → campaigns_of (rows_of T k) k ≡ campaigns_of T k
campaigns_own T k = count-within (λ (c : Campaign). c.account == k) (λ c. c.account == k) T.campaigns (itself (λ (c : Campaign). c.account == k))

pub lines_own : (T : Tables) (k : ℕ) → lines_of (rows_of T k) k ≡ lines_of T k
lines_own T k = count-within (λ (l : Line). l.account == k) (λ l. l.account == k) T.lines (itself (λ (l : Line). l.account == k))

pub negatives_own : (T : Tables) (k : ℕ) → negatives_of (rows_of T k) k ≡ negatives_of T k
negatives_own T k = count-within (λ (n : Negative). n.account == k) (λ n. n.account == k) T.negatives (itself (λ (n : Negative). n.account == k))

pub same_line_own : (T : Tables) (k campaign : ℕ) (pattern : List ℕ) → same_line (rows_of T k) k campaign pattern ≡ same_line T k campaign pattern
same_line_own T k campaign pattern =
    find-within (λ (l : Line). l.account == k) (is_line_like k campaign (trimmed pattern)) T.lines
    (part_of (λ (l : Line). l.account == k) (λ l. l.campaign == campaign && is_same_pattern l.pattern (trimmed pattern)))

pub live_own : (T : Tables) (k campaign : ℕ) (pattern : List ℕ) → live_negative (rows_of T k) k campaign pattern ≡ live_negative T k campaign pattern
live_own T k campaign pattern =
    find-within (λ (n : Negative). n.account == k) (is_live_like k campaign (negative_text pattern)) T.negatives
    (part_of (λ (n : Negative). n.account == k) (λ n. n.campaign == campaign && (n.live && is_same_pattern n.pattern (negative_text pattern))))

pub dropped_own : (T : Tables) (k campaign : ℕ) (pattern : List ℕ) → dropped_negative (rows_of T k) k campaign pattern ≡ dropped_negative T k campaign pattern
dropped_own T k campaign pattern =
    find-within (λ (n : Negative). n.account == k) (is_dropped_like k campaign (negative_text pattern)) T.negatives
    (part_of (λ (n : Negative). n.account == k) (λ n. n.campaign == campaign && (not n.live && is_same_pattern n.pattern (negative_text pattern))))

pub has_live_own : (T : Tables) (k negative : ℕ) → has_live_negative (rows_of T k) k negative ≡ has_live_negative T k negative
has_live_own T k negative =
    any-within (λ (n : Negative). n.account == k) (λ n. n.account == k && (n.number == negative && n.live)) T.negatives
    (part_of (λ (n : Negative). n.account == k) (λ n. n.number == negative && n.live))
