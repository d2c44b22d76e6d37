use Rattle.std.proofs.Common.{◌≡◌, map, drop}
use Rattle.model.specs.Calls.{run}
use Rattle.referee.specs.DocketStates.{state_of, call_of}
use Rattle.referee.proofs.dockets.Docket.run.Given as goal

-- the calls that are left come to the same as all of them did
abbrev pub invariant-loop-call : goal.invariant-loop-call
invariant-loop-call g l = run g.G.GateKind.kind (state_of g.B.ClauseBook.meaning l.self) (map call_of (drop l.call-index l.calls)) ≡ run g.G.GateKind.kind (state_of g.B.ClauseBook.meaning l.initial.self) (map call_of l.calls)
