use Rattle.refusal.specs.declared.Ground.TheVariants.{JobWaiting}
use Rattle.refusal.specs.Grounds.{refusal_of}
use Rattle.model.specs.Calls.{runs}
use Rattle.model.specs.Worlds.{world_of, jobs_of}
use Rattle.manual.proofs.Waits.{same_jobs, waiting_judged}
use Rattle.manual.proofs.owing.run_waiting.Goals as goal

pub returns : goal.returns
returns g c =
    same_jobs (runs 9) (world_of c.args.engine.now.jobs (g.M.Memory.mem c.args.memory.now)) _ (refusal_of JobWaiting 0) _
    (waiting_judged 9 (jobs_of c.args.engine.now.jobs 0) c.requires) c.run.ensures
