use Rattle.model.proofs.Seats.{closed_once, closed_timed, closed_called}
use Rattle.engine.proofs.jobs.Engine.vacate.Goals as goal

pub set_record-requires : goal.set_record-requires
set_record-requires c =
    record {
      low = c.requires;
      once = closed_once c.closed.result c.closed.ensures;
      timed = closed_timed c.closed.result c.closed.ensures;
      called = closed_called c.closed.result c.closed.ensures;
    }
