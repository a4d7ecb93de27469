use Rattle.model.specs.Worlds.{world_of, jobs_of}
use Rattle.desk.proofs.Owing.{Owes, owes}
use Rattle.desk.proofs.Keeping.{release_says}
use Rattle.desk.proofs.desk.Desk.release.Goals as goal
use Rattle.model.proofs.Answers.{no_mem}

pub returns-in-Some : goal.returns-in-Some
returns-in-Some c =
    let self = c.args.self.now in
    let o : Owes (jobs_of self.engine.jobs c.args.job) c.args.job c.in-Some.number =
    owes (jobs_of self.engine.jobs) self.held.receipts c.args.job c.in-Some.number self.kept self.held.eight c.in-Some.ensures.number in
    release_says (world_of self.engine.jobs no_mem) (world_of c.abandon.new.self.engine.jobs no_mem) c.args.job c.in-Some.number o (c.abandon.ensures.world no_mem)
