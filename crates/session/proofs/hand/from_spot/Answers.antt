use Rattle.session_stages.specs.Session.{gave_gives, empty_gives}
use Rattle.session.proofs.hand.from_spot.Goals as goal

pub returns-then-is_empty : goal.returns-then-is_empty
returns-then-is_empty c = rw (c.at_end.ensures.0, c.at_end.ensures.1) (empty_gives c.args.c c.args.out.now (c.is_empty.ensures.none c.if-is_empty.true))

pub returns : goal.returns
returns c = gave_gives c.args.c _ _ _ _ _ c.hand_out-h.ensures c.is_ended.ensures
