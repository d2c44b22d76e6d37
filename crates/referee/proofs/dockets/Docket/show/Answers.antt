-- What is shown is what the call answers.
use Rattle.std.proofs.Common.{ap, ◌∙◌}
use Rattle.referee.specs.Events.{event_answer}
use Rattle.plans.specs.Showings.{setting_answer}
use Rattle.referee.proofs.EventCases.{show_answers}
use Rattle.referee.proofs.dockets.Docket.show.Goals as goal

pub returns-clause-answer : goal.returns-clause-answer
returns-clause-answer g c =
    let standing = c.args.self.now.standing in
    c.meet.ensures.answer ∙ ap (event_answer standing) c.showing-event.ensures ∙ show_answers standing (setting_answer g.G.GateKind.kind c.args.self.now.plan c.args.setting.now)
