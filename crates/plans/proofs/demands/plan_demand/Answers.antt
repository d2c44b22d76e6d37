-- The clauses of a plan are few, and all are counted.
use Rattle.std.proofs.Common.{ℕ, ◌≤◌, length, ap, ◌∙◌, ap₂, arith}
use Rattle.std.proofs.lemmas.List.{length-map}
use Rattle.gates.specs.Nodes.{node_of}
use Rattle.model.specs.Plans.{plan_clauses}
use Rattle.plans.proofs.Counts.{plan_few}
use Rattle.plans.proofs.Counting.{can_count, counted}
use Rattle.plans.proofs.demands.plan_demand.Goals as goal

pub put_plan-requires : goal.put_plan-requires
put_plan-requires g c =
    let p = c.args.plan.now in
    let gates : length p.gates ≤ 256 = omega (arith, length-map c.gates.result.now node_of, ap length c.gates.ensures.gates) in
    let few = plan_few g.G.GateKind.kind g.met.G.GateKind.sized p gates in
    can_count (plan_clauses g.G.GateKind.kind p) _ (omega arith) (omega arith)

pub returns-clause-demand : goal.returns-clause-demand
returns-clause-demand g c = counted (plan_clauses g.G.GateKind.kind c.args.plan.now) _ _ c.put_plan.ensures.clauses ∙ ap₂ (λ (n m : ℕ). record { numbers = n; cells = m }) (omega arith) (omega arith)
