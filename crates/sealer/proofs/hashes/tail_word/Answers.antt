-- The check does not find these alone.
use Rattle.std.proofs.Common.{◌%◌, ◌++◌, length, set, drop, ap, ◌∙◌}
use Rattle.sealer.specs.Siphash.{low}
use Rattle.sealer.proofs.Words.{last_bytes, nils}
use Rattle.sealer.proofs.hashes.tail_word.Goals as goal

pub returns : goal.returns
returns c =
    let rest = c.args.rest.now in
    let copied = ap (λ bs. low 8 (set (bs ++ drop (length rest) (nils 8)) 7 (c.args.total % 256)) 0) c.copy_from_slice.ensures.after in
    c.word.ensures ∙ (copied ∙ last_bytes rest (c.args.total % 256) c.requires)
