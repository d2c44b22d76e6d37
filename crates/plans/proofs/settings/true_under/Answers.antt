-- The part for the switches gets the setting, and the part for all signals the values of the plan, whose root is read.
use Rattle.std.proofs.Common.{◌≡◌, ℕ, ◌≤◌, Bool, false, List, ◌++◌, map, length, take, Some, None, Option, ap, ◌∙◌, ap₂, arith, rules}
use Rattle.std.proofs.lemmas.List.FromFn.{length-map-range_with_len}
use Rattle.std.proofs.lemmas.List.{length-take, take-take, take_at}
use Rattle.std.proofs.lemmas.Slice.{overwrites}
use Rattle.gates.specs.declared.records.NodeRecord.{NodeRecord}
use Rattle.gates.specs.Kinds.{Kind}
use Rattle.gates.specs.Nodes.{node_of, value_at, values_of}
use Rattle.model.specs.Plans.{Plan, true_under, plan_values}
use Rattle.model.specs.Settings.{bit_at, setting_of}
use Rattle.plans.proofs.settings.true_under.Goals as goal

root_value : (K : Kind) (p : Plan) (bytes : List ℕ) (root switches count part : ℕ) (gates : List NodeRecord) (unpacked behind evaluated rest : List Bool)
    → Some root ≡ p.root → switches ≡ p.switches → map node_of gates ≡ p.gates
    → part ≡ switches → switches ≤ count → length evaluated ≡ count
    → unpacked ≡ setting_of part bytes
    → evaluated ≡ values_of K (map node_of gates) (take switches (take count (unpacked ++ behind)))
    → value_at (take count (evaluated ++ rest)) root ≡ true_under K p (setting_of p.switches bytes)
root_value K p bytes root switches count part gates unpacked behind evaluated rest is_root is_switches is_gates whole fewer full packed made =
    let set : unpacked ≡ setting_of p.switches bytes = packed ∙ ap (λ n. setting_of n bytes) (whole ∙ is_switches) in
    let long : length unpacked ≡ switches = ap length packed ∙ length-map-range_with_len (bit_at bytes) 0 part ∙ whole in
    let front : take switches (take count (unpacked ++ behind)) ≡ unpacked = take-take switches count (unpacked ++ behind) fewer ∙ take_at unpacked behind switches long in
    let values : take count (evaluated ++ rest) ≡ plan_values K p (setting_of p.switches bytes) =
    take_at evaluated rest count full ∙ made ∙ ap₂ (values_of K) is_gates (front ∙ set) in
    ap (λ vs. value_at vs root) values
    ∙ ap (λ (o : Option ℕ). elim o [ Some r ↦ value_at (plan_values K p (setting_of p.switches bytes)) r | None ↦ false ]) is_root

pub returns : goal.returns
returns g c =
    c.value_at.ensures
    ∙ root_value g.G.GateKind.kind c.args.plan.now c.args.setting.now c.in-Some.root c.switches-switches.result _ _ c.gates.result.now c.unpack.new.values _ c.evaluate.new.values _
    c.in-Some.ensures.root c.switches-switches.ensures.switches c.gates.ensures.gates (simp length-take (omega arith)) (omega arith) (search (rules, overwrites)) c.unpack.ensures c.evaluate.ensures
