-- Lines hold if the computed test of them all does: a longer table needs no longer proof.
use Rattle.std.proofs.Common.{◌≡◌, Bool, true, ◌&&◌, eqb, List, [], ◌∷◌}
use Rattle.std.specs.List.{AllByRecursion}
use Rattle.std.proofs.lemmas.Bool.{and_parts, eqb-true}
use Rattle.cases.specs.Lines.{Line, Holds}

abbrev pub right : List Line → Bool
right [] = true
right (l ∷ ls) = eqb l.given l.expected && right ls

pub all_hold : (ls : List Line) → right ls ≡ true → AllByRecursion Holds ls
all_hold [] e = tt
all_hold (l ∷ ls) e =
    let parts = and_parts (eqb l.given l.expected) (right ls) e in
    (eqb-true _ _ parts.0, all_hold ls parts.1)
