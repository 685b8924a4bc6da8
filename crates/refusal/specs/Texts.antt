-- What is shown of a refusal.
use Rattle.std.specs.Prelude.{ℕ, ◌++◌, List, Some, None, Option, codes}
use Rattle.std.specs.Fmt.{decimal}
use Rattle.refusal.specs.declared.tellings.Layer.{Layer}
use Rattle.refusal.specs.declared.tellings.Layer.TheVariants as layer
use Rattle.refusal.specs.declared.tellings.Refusal.{Refusal}

abbrev pub layer_text : Layer → List ℕ
layer_text layer.Packet = codes "packet"
layer_text layer.Sealer = codes "sealer"
layer_text layer.Proof = codes "proof"
layer_text layer.Replica = codes "replica"
layer_text layer.Collector = codes "collector"

abbrev place_text : Option ℕ → List ℕ
place_text None = codes ")"
place_text (Some place) = codes ", statement " ++ (decimal place ++ codes ")")

-- the number, the layer and, for some, the place
abbrev pub refusal_text : Refusal → List ℕ
refusal_text r = codes "refusal " ++ (decimal r.number ++ (codes " (" ++ (layer_text r.layer ++ place_text r.place)))
