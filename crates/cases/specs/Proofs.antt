-- The lines of roles and of reports. All reports are on slot 1, and no line looks at a seal.
use Rattle.std.specs.Prelude.{ℕ, List, [], ◌∷◌, ◌++◌, map, Ok, Err, Result}
use Rattle.packet.specs.Statements.{encode, statement}
use Rattle.packet.specs.declared.kinds.Kind.TheVariants.{Order, Prepare, Report}
use Rattle.packet.specs.declared.statements.Statement.{Statement}
use Rattle.proof.specs.Reports.{check_backing}
use Rattle.proof.specs.Roles.{primary, spare}
use Rattle.refusal.specs.Refusals.{of_proof}
use Rattle.refusal.specs.declared.proofs.ProofFault.{ProofFault}
use Rattle.cases.specs.Lines.{Line, line}

-- the number of the refusal, or 0 where there is none
abbrev pub refusal_number : Result (Unit {0}) ProofFault → ℕ
refusal_number (Ok x) = 0
refusal_number (Err e) = (of_proof e).number

-- signer i reports for view v that no earlier view had a certificate
abbrev pub none_seen : (i v : ℕ) → List Statement
none_seen i v = statement Report i v 1 0 0 0 ∷ []

-- signer i reports for view v that view 1, of primary 0, had a certificate for command c
abbrev pub view_1_seen : (i v c : ℕ) → List Statement
view_1_seen i v c =
    statement Report i v 1 1 c 0
    ∷ statement Order 0 1 1 0 c 0
    ∷ statement Prepare 1 1 1 0 c 0
    ∷ statement Prepare 2 1 1 0 c 0
    ∷ []

-- the same of view 2, of primary 1
abbrev pub view_2_seen : (i v c : ℕ) → List Statement
view_2_seen i v c =
    statement Report i v 1 2 c 0
    ∷ statement Order 1 2 1 0 c 0
    ∷ statement Prepare 2 2 1 0 c 0
    ∷ statement Prepare 3 2 1 0 c 0
    ∷ []

-- how three groups are judged as the proof for command c in view v
abbrev pub judged : (v c : ℕ) (first second third : List Statement) → ℕ
judged v c first second third = refusal_number (check_backing v 1 c (map encode (first ++ (second ++ third))) 0)

-- earlier views 0, 0, 0 for view 2
abbrev pub none_for : (c : ℕ) → ℕ
none_for c = judged 2 c (none_seen 0 2) (none_seen 1 2) (none_seen 2 2)

-- earlier views 0, 1 and 2 for view 3; view 1 had command 5, view 2 command 7
abbrev pub rising_for : (c : ℕ) → ℕ
rising_for c = judged 3 c (none_seen 0 3) (view_1_seen 1 3 5) (view_2_seen 2 3 7)

-- earlier views 2, 2 and 0 for view 3, the first two with commands 5 and 7
abbrev pub unlike_for : (c : ℕ) → ℕ
unlike_for c = judged 3 c (view_2_seen 0 3 5) (view_2_seen 1 3 7) (none_seen 2 3)

abbrev pub proof_lines : List Line
proof_lines =
    line "the primary of view 1" 0 (primary 1)
    ∷ line "the spare of view 1" 3 (spare 1)
    ∷ line "the primary of view 4" 3 (primary 4)
    ∷ line "the spare of view 4" 2 (spare 4)
    ∷ line "the primary of view 5" 0 (primary 5)
    ∷ line "the spare of view 5" 3 (spare 5)
    ∷ line "reports of earlier views 0, 0, 0 allow the empty command" 0 (none_for 0)
    ∷ line "reports of earlier views 0, 0, 0 allow command 7" 0 (none_for 7)
    ∷ line "reports of earlier views 0, 0, 0 allow the largest command" 0 (none_for 0xFFFF_FFFF_FFFF_FFFF)
    ∷ line "reports of earlier views 0, 1, 2 allow view 2's command" 0 (rising_for 7)
    ∷ line "reports of earlier views 0, 1, 2 do not allow view 1's command" 6 (rising_for 5)
    ∷ line "reports of earlier views 0, 1, 2 do not allow another command" 6 (rising_for 9)
    ∷ line "two reports of earlier view 2 with commands 5 and 7 do not allow command 5" 6 (unlike_for 5)
    ∷ line "two reports of earlier view 2 with commands 5 and 7 do not allow command 7" 6 (unlike_for 7)
    ∷ []
