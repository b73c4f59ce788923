-- A session answers a bounded number of messages, and so do several.
use Rattle.std.proofs.Common.{◌≡◌, ℕ, zero, suc, ◌+◌, ◌*◌, ◌<◌, ◌≤◌, Bool, true, false, ◌==◌, ◌||◌, inl, inr, List, [], ◌∷◌, ◌++◌, length, refl, ap, ◌∙◌, length-append, arith}
use Rattle.std.proofs.lemmas.Bool.{cases_lt}
use Rattle.desk_io.specs.SinkView.{SinkView}
use Rattle.http_api.specs.declared.ending.Session.{Session}
use Rattle.http_api.specs.declared.ending.SessionEnd.{SessionEnd}
use Rattle.http_api.specs.declared.ending.SessionEnd.TheVariants.{Ended, Closed, CutShort, Malformed, SessionFull, ReadFault, WriteFault, NoMemory}
use Rattle.http_api.specs.declared.limits.TheConstants.{MESSAGES_MAX}
use Rattle.http_api.specs.Message.{Message, ends_session}
use Rattle.http_api.specs.SessionRun.{AreExchanged, Exchange, IsSession, SessionState, WrittenBy, is_last}
use Rattle.serve_threads.specs.Visits.{AreWorked, LinkSides, Visit, WorkState}

-- the member of a list behind its first n
record Cut {A : Type 0} (n : ℕ) (xs : List A) : Type 0 where
  before : List A
  here : A
  after : List A
  is : xs ≡ before ++ here ∷ after
  count : length before ≡ n

cut_at : {A : Type 0} (n : ℕ) (xs : List A) → n < length xs → Cut n xs
cut_at zero (x ∷ xs) below = record { before = []; here = x; after = xs; is = refl; count = refl }
cut_at (suc n) (x ∷ xs) below =
    let rest = cut_at n xs (omega (arith, below)) in
    record { before = x ∷ rest.before; here = rest.here; after = rest.after; is = ap (λ more. x ∷ more) rest.is; count = ap suc rest.count }
cut_at n [] below = absurd (omega (arith, below))

-- the message of the last number is the last
number_is_last : (number : ℕ) (message : Message) → number ≡ MESSAGES_MAX → is_last number message ≡ true
number_is_last number message is = by_cases (ends_session message) (number == MESSAGES_MAX) (ap (λ n. n == MESSAGES_MAX) is)
  where
    by_cases : (a b : Bool) → b ≡ true → (a || b) ≡ true
    by_cases true b h = refl
    by_cases false b h = h

few_exchanges : (host_key bytes : List ℕ) (exchanges : List Exchange) (rest : List ℕ) → AreExchanged host_key bytes exchanges rest → length exchanges ≤ MESSAGES_MAX
few_exchanges host_key bytes exchanges rest spelled = elim (cases_lt MESSAGES_MAX (length exchanges)) [
  | inr few ↦ few
  | inl many ↦
      let cut = cut_at 9999 exchanges (omega (arith, many)) in
      let full : length cut.before + 1 ≡ MESSAGES_MAX = omega (arith, cut.count) in
      let none = spelled.on cut.before cut.after cut.here cut.is (number_is_last (length cut.before + 1) cut.here.message full) in
      let all : length exchanges ≡ length cut.before + length (cut.here ∷ cut.after) = ap length cut.is ∙ length-append cut.before (cut.here ∷ cut.after) in
      let behind : length cut.after ≡ 0 = ap length none in
      absurd (omega (arith, many, all, behind, full))
]

-- no more answers are written than there are messages
few_written : (end : SessionEnd) (sink sink_now : SinkView) (exchanges : List Exchange) (messages : ℕ) → WrittenBy end sink sink_now exchanges messages → messages ≤ length exchanges
few_written Ended sink sink_now exchanges messages written = omega (arith, written.count)
few_written Closed sink sink_now exchanges messages written = omega (arith, written.count)
few_written CutShort sink sink_now exchanges messages written = omega (arith, written.count)
few_written Malformed sink sink_now exchanges messages written = omega (arith, written.count)
few_written SessionFull sink sink_now exchanges messages written = omega (arith, written.count)
few_written ReadFault sink sink_now exchanges messages written = omega (arith, written.count)
few_written WriteFault sink sink_now exchanges messages written =
    let all = ap length written.all ∙ length-append written.answered (written.last ∷ []) in
    omega (arith, all, written.count)
few_written NoMemory sink sink_now exchanges messages written = omega (arith, written.count)

-- a session answers at most 10,000 messages
pub few_messages : (host_key : List ℕ) (before after : SessionState) (session : Session) → IsSession host_key before after session → session.messages ≤ MESSAGES_MAX
few_messages host_key before after session held =
    let written = few_written session.end before.sink after.sink held.exchanges session.messages held.written in
    let spelled = few_exchanges host_key held.bytes held.exchanges held.rest held.spelled in
    omega (arith, written, spelled)

-- several sessions answer at most as many for each
pub few_worked : {L : Type 0} (sides : LinkSides L) (host_key : List ℕ) (before after : WorkState) (visits : List (Visit L)) (messages : ℕ)
    → AreWorked sides host_key before visits messages after → messages ≤ MESSAGES_MAX * length visits
unfolding AreWorked
few_worked sides host_key before after [] messages h = let none = h.2 in omega (arith, none)
few_worked sides host_key before after (visit ∷ visits) messages h =
    let all = h.4 in
    let first = few_messages host_key _ _ h.0 h.3.run in
    let rest = few_worked sides host_key h.1 after visits h.2 h.5 in
    omega (arith, all, first, rest)
