-- `read_piece`, by what feeding comes to.
use Rattle.program_input.proofs as own
use own.InputLaws.{open-ready, read-still, read-going, read-failed}
use Rattle.program_input.proofs.read_piece.Goals as goal

pub feed-requires : goal.feed-requires
feed-requires c = (open-ready c.in-Going.is c.requires).0

pub line_in-requires : goal.line_in-requires
line_in-requires c = let o = open-ready c.in-Going.is c.requires in (o.1, o.2)

pub line_in-requires-in-Err : goal.line_in-requires-in-Err
line_in-requires-in-Err c = let o = open-ready c.in-Going.is c.requires in (o.1, o.2)

pub returns-in-Failed : goal.returns-in-Failed
returns-in-Failed c = read-still _ _ _ _ c.in-Failed.is

pub returns-in-Ok : goal.returns-in-Ok
returns-in-Ok c = read-going _ _ _ _ _ _ _ c.in-Going.is c.feed.ensures.good_feeding c.feed.ensures.comes c.in-Ok.is c.line_in.ensures

pub returns-in-Err : goal.returns-in-Err
returns-in-Err c = read-failed _ _ _ _ _ _ _ c.in-Going.is c.feed.ensures.good_feeding c.feed.ensures.comes c.in-Err.is (rw c.saturating_sub.ensures at c.line_in-in-Err.ensures)
