-- The check does not find these alone.
use Rattle.std.proofs.Common.{◌≡◌, ◌/◌, length, ap, ◌∙◌, arith, rules}
use Rattle.sealer.specs.Siphash.{absorbed, compressed, finished, keyed, low, siphash}
use Rattle.sealer.proofs.Words.{absorbed_more, last_is, word_at}
use Rattle.sealer.proofs.hashes.siphash.Goals as goal

pub loop-next-init : goal.loop-next-init
unfolding absorbed
loop-next-init c =
    let key = c.args.key.now in
    let a = c.word.ensures ∙ word_at c.as_chunks.result.0.now (length key / 8) 0 key c.as_chunks.ensures.front (search rules) in
    let b = c.word-2.ensures ∙ word_at c.as_chunks.result.0.now (length key / 8) 1 key c.as_chunks.ensures.front (search rules) in
    c.keyed-s.ensures ∙ (ap (λ w. keyed w c.word-2.result) a ∙ ap (keyed (low 8 key 0)) b)

pub loop-next-preserved : goal.loop-next-preserved
loop-next-preserved c =
    let bs = c.args.bytes.now in
    let n = c.loop-next.next-index in
    let w = c.word-in-loop-next.ensures ∙ word_at c.as_chunks-2.result.0.now (length bs / 8) n bs c.as_chunks-2.ensures.front (omega arith) in
    let k = keyed (low 8 c.args.key.now 0) (low 8 c.args.key.now 8) in
    c.compress-s.ensures ∙ (ap (λ s. compressed s c.word-in-loop-next.result) c.loop-next.invariant ∙ absorbed_more k bs n c.word-in-loop-next.result w)

pub returns : goal.returns
unfolding siphash
returns c =
    let bs = c.args.bytes.now in
    let n : c.loop-next.next-index ≡ length bs / 8 = omega (arith, c.as_chunks-2.ensures.front_len) in
    let l = c.tail_word.ensures ∙ last_is bs c.as_chunks-2.result.1.now c.as_chunks-2.ensures.back in
    let k = keyed (low 8 c.args.key.now 0) (low 8 c.args.key.now 8) in
    let s = c.loop-next.invariant ∙ ap (absorbed k bs) n in
    c.finish.ensures ∙ ap finished (c.compress.ensures ∙ (ap (λ s. compressed s c.tail_word.result) s ∙ ap (compressed (absorbed k bs (length bs / 8))) l))
