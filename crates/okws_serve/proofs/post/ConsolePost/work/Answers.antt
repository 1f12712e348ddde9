use Rattle.std.proofs.Common.{◌∙◌, not, ap}
use Rattle.okws_serve.proofs.Attending.{is_calm}
use Rattle.okws_serve.proofs.post.ConsolePost.work.Goals as goal

pub oversee-overseen-requires-clause-config : goal.oversee-overseen-requires-clause-config
oversee-overseen-requires-clause-config g c = c.self.invariant.steered.site_is

pub oversee-overseen-requires-clause-services : goal.oversee-overseen-requires-clause-services
oversee-overseen-requires-clause-services g c = c.self.invariant.steered.services

pub oversee-overseen-requires-clause-templates : goal.oversee-overseen-requires-clause-templates
oversee-overseen-requires-clause-templates g c = c.self.invariant.steered.templates

pub conclude-ending-requires-clause-board : goal.conclude-ending-requires-clause-board
conclude-ending-requires-clause-board g c = c.self.invariant.board_is

pub conclude-ending-requires-clause-last : goal.conclude-ending-requires-clause-last
conclude-ending-requires-clause-last g c = c.self.invariant.last

pub conclude-ending-requires-clause-calm : goal.conclude-ending-requires-clause-calm
conclude-ending-requires-clause-calm g c =
    is_calm c.self.inside.ended c.self.inside.place.seen (c.is_none.ensures ∙ ap not c.if-is_none.true) c.self.invariant.calm
