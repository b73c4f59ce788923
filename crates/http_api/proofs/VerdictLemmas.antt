-- The judgements on a message, and its target, cut at its first question mark.
use Rattle.std.proofs.Common.{◌≡◌, ℕ, ◌+◌, ◌==◌, ◌++◌, Bool, true, false, List, [], ◌∷◌, length, take, drop, get_or, Option, Some, None, refl, subst, sym, ap, ◌∙◌, Result, Ok, Err, IfOk, arith, take_all}
use Rattle.std.specs.List.{position_or_len}
use Rattle.std.proofs.lemmas.Bool.{false_from_ne_true}
use Rattle.std.proofs.lemmas.List.{drop_all}
use Rattle.std.proofs.lemmas.List.Sums.{position_or_len_is}
use Rattle.memchr.specs.Find.{IsFirstByte, is_byte}
use Rattle.form_urlencoded.specs.Form.{split_once}
use Rattle.csv_import.specs.ImportFile.{Tells}
use Rattle.csv_import.specs.declared.fault.CsvFault.{CsvFault}
use Rattle.desk_types.specs.declared.call.ImportRow.{ImportRow}
use Rattle.http_api.specs.declared.judgement.Judgement.{Judgement}
use Rattle.http_api.specs.declared.judgement.Judgement.TheVariants.{NoRoute}
use Rattle.http_api.specs.declared.resource.Resource.{Resource}
use Rattle.http_api.specs.declared.resource.Resource.TheVariants as names
use Rattle.http_api.specs.declared.verdict.Verdict.{Verdict}
use Rattle.http_api.specs.declared.verdict.Verdict.TheVariants.{Fails}
use Rattle.http_api.specs.Asked.{IsVerdictFor, by_file}
use Rattle.http_api.specs.HeadValue.{HeadValue}
use Rattle.http_api.specs.Judging.{first_made}
use Rattle.http_api.specs.Message.{Message, Faulty, Whole}
use Rattle.http_api.specs.Resources.{path_of, query_of, resource_of}
use Rattle.http_api.specs.Verdict.{IsMadeOr, IsVerdict, IsVerdictBy, IsVerdictOn, claim_judgements, head_judgements, key_of, resource_judgements}

module _ (mark : ℕ) (target : List ℕ) where
  pub split_some : (place : ℕ) → IsFirstByte (is_byte mark) target (Some place) → (take place target, drop (place + 1) target) ≡ split_once mark target
  split_some place found =
      let at : position_or_len (λ (byte : ℕ). byte == mark) target ≡ place = position_or_len_is (λ (byte : ℕ). byte == mark) target place 0 (omega (arith, found.0.high))
      (λ k before. false_from_ne_true (get_or target k 0 == mark) (λ is. found.0.before k (omega arith) before is)) (λ inside. found.1) in
      sym (ap (λ (n : ℕ). (take n target, drop (n + 1) target)) at)

  pub split_none : IsFirstByte (is_byte mark) target None → (target, []) ≡ split_once mark target
  split_none none =
      let at : position_or_len (λ (byte : ℕ). byte == mark) target ≡ length target = position_or_len_is (λ (byte : ℕ). byte == mark) target (length target) 0 (omega arith)
      (λ k before. false_from_ne_true (get_or target k 0 == mark) (λ is. none k (omega arith) before is)) (λ inside. absurd (omega arith)) in
      sym (ap (λ (n : ℕ). (take n target, drop (n + 1) target)) at
      ∙ (ap (λ (front : List ℕ). (front, drop (length target + 1) target)) (take_all (length target) target (omega arith))
      ∙ ap (λ (rest : List ℕ). (target, rest)) (drop_all (length target + 1) target (omega arith))))

-- the first judgement of two lists
or_else : Option Judgement → Option Judgement → Option Judgement
or_else None later = later
or_else (Some judgement) later = Some judgement

made_of_both : (first second : List (Bool × Judgement)) → first_made (first ++ second) ≡ or_else (first_made first) (first_made second)
unfolding first_made or_else
made_of_both [] second = refl
made_of_both ((true, judgement) ∷ more) second = refl
made_of_both ((false, judgement) ∷ more) second = made_of_both more second

module _ (host_key : List ℕ) (head : HeadValue) (body : List ℕ) where
  -- the verdict by the judgements on a head, and by what its target names
  verdict_by : (found : Option Resource) (first second : Option Judgement) (verdict : Verdict) → found ≡ resource_of (path_of head) → first ≡ first_made (head_judgements head) →
      second ≡ first_made (resource_judgements host_key head found) → IsMadeOr (or_else first second) (IsVerdictBy found head body) verdict → IsVerdictOn host_key head body verdict
  verdict_by found first second verdict is one two made =
      let both : or_else first second ≡ first_made (head_judgements head ++ resource_judgements host_key head found) =
      ap (λ (j : Option Judgement). or_else j second) one
      ∙ (ap (λ (j : Option Judgement). or_else (first_made (head_judgements head)) j) two ∙ sym (made_of_both (head_judgements head) (resource_judgements host_key head found))) in
      subst (λ (f : Option Resource). IsMadeOr (first_made (head_judgements head ++ resource_judgements host_key head f)) (IsVerdictBy f head body) verdict) is
      (subst (λ (j : Option Judgement). IsMadeOr j (IsVerdictBy found head body) verdict) both made)

  pub by_head : (judgement : Judgement) → Some judgement ≡ first_made (head_judgements head) → IsVerdictOn host_key head body (Fails judgement)
  unfolding or_else
  by_head judgement is = verdict_by (resource_of (path_of head)) (Some judgement) (first_made (resource_judgements host_key head (resource_of (path_of head)))) (Fails judgement) refl is refl refl

  module _ (passes : None ≡ first_made (head_judgements head)) where
    pub no_route : None ≡ resource_of (path_of head) → IsVerdictOn host_key head body (Fails NoRoute)
    unfolding or_else first_made
    no_route is = verdict_by None None (Some NoRoute) (Fails NoRoute) is passes refl refl

    module _ (resource : Resource) (is : Some resource ≡ resource_of (path_of head)) where
      pub by_claim : (judgement : Judgement) → Some judgement ≡ first_made (claim_judgements host_key head resource) → IsVerdictOn host_key head body (Fails judgement)
      unfolding or_else
      by_claim judgement made = verdict_by (Some resource) None (Some judgement) (Fails judgement) is passes made refl

      module _ (claimed : None ≡ first_made (claim_judgements host_key head resource)) where
        by_resource : (verdict : Verdict) → IsVerdictFor resource (key_of head) (query_of head) body verdict → IsVerdictOn host_key head body verdict
        unfolding or_else
        by_resource verdict h = verdict_by (Some resource) None None verdict is passes claimed h

        pub verdict_asked : {E : Type 0} (judged : Result Verdict E) (key query : List ℕ) → IfOk judged (λ verdict. IsVerdictFor resource key query body verdict) → key ≡ key_of head → query ≡ query_of head →
            IfOk judged (λ verdict. IsVerdictOn host_key head body verdict)
        verdict_asked (Ok verdict) key query h by_key by_query =
            by_resource verdict (subst (λ (one : List ℕ). IsVerdictFor resource (key_of head) one body verdict) by_query (subst (λ (one : List ℕ). IsVerdictFor resource one query body verdict) by_key h))
        verdict_asked (Err error) key query h by_key by_query = tt

-- a target's path and query
pub parts_of : (head : HeadValue) (path query target : List ℕ) → (path, query) ≡ split_once 63 target → target ≡ head.target → (path ≡ path_of head) × (query ≡ query_of head)
parts_of head path query target cut is = (ap (λ (parts : List ℕ × List ℕ). parts.0) both, ap (λ (parts : List ℕ × List ℕ). parts.1) both)
  where
    both : (path, query) ≡ split_once 63 head.target
    both = cut ∙ ap (split_once 63) is

-- ---- one verdict, since a file tells one thing

module _ (one_thing : (bytes : List ℕ) (told other : Result (List ImportRow) CsvFault) → Tells bytes told → Tells bytes other → told ≡ other) where
  one_for : (resource : Resource) (key query body : List ℕ) (verdict other : Verdict) → IsVerdictFor resource key query body verdict → IsVerdictFor resource key query body other → verdict ≡ other
  one_for (names.Host resource) key query body verdict other one two = one ∙ sym two
  one_for (names.Account account resource) key query body verdict other one two = one ∙ sym two
  one_for (names.Import account batch) key query body verdict other one two = one.2 ∙ ap (by_file account key batch) (one_thing body one.0 two.0 one.1 two.1) ∙ sym two.2
  one_for (names.Shown account day) key query body verdict other one two = one ∙ sym two
  one_for names.Search key query body verdict other one two = one ∙ sym two
  one_for (names.Click placement) key query body verdict other one two = one ∙ sym two

  one_by : (found : Option Resource) (head : HeadValue) (body : List ℕ) (verdict other : Verdict) → IsVerdictBy found head body verdict → IsVerdictBy found head body other → verdict ≡ other
  one_by None head body verdict other one two = absurd one
  one_by (Some resource) head body verdict other one two = one_for resource (key_of head) (query_of head) body verdict other one two

  one_made : (made : Option Judgement) (found : Option Resource) (head : HeadValue) (body : List ℕ) (verdict other : Verdict) → IsMadeOr made (IsVerdictBy found head body) verdict →
      IsMadeOr made (IsVerdictBy found head body) other → verdict ≡ other
  one_made (Some judgement) found head body verdict other one two = one ∙ sym two
  one_made None found head body verdict other one two = one_by found head body verdict other one two

  pub one_verdict : (host_key : List ℕ) (message : Message) (verdict other : Verdict) → IsVerdict host_key message verdict → IsVerdict host_key message other → verdict ≡ other
  one_verdict host_key (Faulty head) verdict other one two = one ∙ sym two
  one_verdict host_key (Whole head body) verdict other one two =
      one_made (first_made (head_judgements head ++ resource_judgements host_key head (resource_of (path_of head)))) (resource_of (path_of head)) head body verdict other one two
