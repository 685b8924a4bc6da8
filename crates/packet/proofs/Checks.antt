-- What checking parts in their order comes to.
use Rattle.std.proofs.Common.{◌≡◌, ℕ, suc, ◌+◌, Bool, true, false, cond, List, [], ◌∷◌, Ok, Err, Result, refl, arith}
use Rattle.packet.specs.Parts.{check_from, Passes, FirstFailing}

-- every part passes, or the first that fails is refused with its place
pub data Checked {X E : Type 0} (test : X → Bool) (fault : ℕ → E) (i : ℕ) (ps : List X) : Result (Unit {0}) E → Type 0 where
  fine : Passes test ps → Checked test fault i ps (Ok tt)
  bad : (j n : ℕ) → n ≡ i + j → FirstFailing test j ps → Checked test fault i ps (Err (fault n))

module _ {X E : Type 0} (test : X → Bool) (fault : ℕ → E) where
  checked_more : (i : ℕ) (p : X) (ps : List X) (b : Bool) → test p ≡ b → (c : Result (Unit {0}) E) → Checked test fault (i + 1) ps c → Checked test fault i (p ∷ ps) (cond b c (Err (fault i)))
  checked_more i p ps false e c k = Checked.bad 0 i (omega arith) (record { before = tt; part = p; rest = ps; here = refl; fails = e })
  checked_more i p ps true e c (Checked.fine a) = Checked.fine (e, a)
  checked_more i p ps true e c (Checked.bad j n m f) =
      Checked.bad (suc j) n (omega arith) (record { before = (e, f.before); part = f.part; rest = f.rest; here = f.here; fails = f.fails })

  pub checked : (i : ℕ) (ps : List X) → Checked test fault i ps (check_from test fault i ps)
  checked i [] = Checked.fine tt
  checked i (p ∷ ps) = checked_more i p ps (test p) refl (check_from test fault (i + 1) ps) (checked (i + 1) ps)

  pub check_passes : (i : ℕ) (ps : List X) → Passes test ps → check_from test fault i ps ≡ Ok tt
  check_passes i [] a = refl
  check_passes i (p ∷ ps) a = rw a.0 (check_passes (i + 1) ps a.1)

  pub passes_checked : (i : ℕ) (ps : List X) → check_from test fault i ps ≡ Ok tt → Passes test ps
  passes_checked i ps e = of_ok _ (checked i ps) e
    where
      of_ok : (c : Result (Unit {0}) E) → Checked test fault i ps c → c ≡ Ok tt → Passes test ps
      of_ok c (Checked.fine a) e = a
      of_ok c (Checked.bad j n m f) e = let z : ◌≡◌ {A = ℕ} 0 1 = cc in absurd (omega arith)
