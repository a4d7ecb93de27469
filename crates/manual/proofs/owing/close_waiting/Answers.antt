use Rattle.refusal.specs.declared.Ground.TheVariants.{JobWaiting}
use Rattle.refusal.specs.Grounds.{refusal_of}
use Rattle.model.specs.Calls.{closes}
use Rattle.model.specs.Worlds.{world_of, jobs_of}
use Rattle.manual.proofs.Waits.{same_jobs, closing_judged}
use Rattle.manual.proofs.owing.close_waiting.Goals as goal
use Rattle.model.proofs.Answers.{no_mem}

pub returns : goal.returns
returns c =
    same_jobs closes (world_of c.args.engine.now.jobs no_mem) _ (refusal_of JobWaiting 0) _
    (closing_judged (jobs_of c.args.engine.now.jobs 0) c.requires) (c.close.ensures no_mem)
