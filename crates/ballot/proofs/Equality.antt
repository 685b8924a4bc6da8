-- What the laws of an equality give of counts.
use Rattle.std.proofs.Common.{◌≡◌, Bool, true, Some, cond, count_by, ap, ◌∙◌}
use Rattle.std.proofs.Math.Path.{fun_ext}
use Rattle.std.proofs.lemmas.Option.{get_or_from_slice_get, slice_get_within}
use Rattle.std.proofs.lemmas.List.Sums.{get_or-le-sum_by}
use Rattle.std.specs.Cmp.{IsEquivalence}
use Rattle.std.specs.Cmp.Lexicographic.{options_equiv}
use Rattle.ballot.specs.Counting.{counts_for, Counting}

module _ {B : Type 0} {same : B → B → Bool} (laws : IsEquivalence same) where
  -- equal ballots are counted for by the same places
  same_places : (a b : B) → same a b ≡ true → counts_for same a ≡ counts_for same b
  same_places a b e =
      let on_places = options_equiv laws in
      fun_ext (λ place. on_places.symm place (Some a) ∙ on_places.congr (Some a) (Some b) place e ∙ on_places.symm (Some b) place)

  pub counting : Counting same
  counting = record {
    alike = λ places a b e. ap (λ test. count_by test places) (same_places a b e);
    itself = λ places i own stands.
        let read = get_or_from_slice_get places i (Some own) (Some own) stands in
        let within = slice_get_within places i (Some own) stands in
        rw (read, laws.refl own) at (get_or-le-sum_by (λ place. cond (counts_for same own place) 1 0) places i (Some own) within);
    together = λ like a b p q. laws.congr a like b p ∙ laws.symm like b ∙ q;
  }
