-- A record more is its node more.
use Rattle.std.proofs.Common.{◌≡◌, List, [], ◌∷◌, ◌++◌, map, ap, ◌∙◌}
use Rattle.std.proofs.lemmas.List.{map_push}
use Rattle.gates.specs.declared.records.NodeRecord.{NodeRecord}
use Rattle.gates.specs.Nodes.{Node, node_of}

pub one_record_more : (old new : List NodeRecord) (r : NodeRecord) (made : Node) → new ≡ old ++ (r ∷ []) → node_of r ≡ made → map node_of new ≡ map node_of old ++ (made ∷ [])
one_record_more old new r made grown is = ap (map node_of) grown ∙ map_push node_of old r ∙ ap (λ x. map node_of old ++ (x ∷ [])) is
