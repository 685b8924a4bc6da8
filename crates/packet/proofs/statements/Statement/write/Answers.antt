-- The check does not find these alone.
use Rattle.std.proofs.Common.{refl, ◌∙◌}
use Rattle.packet.specs.Statements.{encode, body}
use Rattle.packet.proofs.Digits.{eight_written}
use Rattle.packet.proofs.Encodings.{reads_as}
use Rattle.packet.proofs.statements.Statement.write.Goals as goal

pub returns-clause-back : goal.returns-clause-back
unfolding encode body
returns-clause-back c =
    let b = c.copy_from_slice.ensures.after ∙ c.body.ensures.exact in
    let t = c.copy_from_slice-2.ensures.after ∙ (c.to_be_bytes.ensures ∙ eight_written c.args.self.now.seal) in
    λ kept. reads_as c.args.self.now _ (rw (b, t) (refl {a = encode c.args.self.now})) (record { kept = kept; fits = c.fit.ensures.fits; seal = c.fit.ensures.seal })
