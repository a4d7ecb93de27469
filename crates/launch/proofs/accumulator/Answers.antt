use Rattle.std.proofs.Common.{◌≡◌, Result, IsOk, sym, refl, ap, ◌∙◌, subst}
use Rattle.refusal.specs.declared.Refusal.{Refusal}
use Rattle.registers.specs.declared.bank.Bank.{Bank}
use Rattle.registers.specs.Processors.{bank_of}
use Rattle.model.specs.declared.job.State.{State}
use Rattle.model.specs.Jobs.{state_of}
use Rattle.model.specs.Worlds.{world_of, jobs_of}
use Rattle.model.proofs.Answers.{no_mem}
use Rattle.launch.proofs.Ran.{state_is}
use Rattle.launch.proofs.accumulator.Goals as goal

pub unwrap-state-requires : goal.unwrap-state-requires
unwrap-state-requires c =
    let told = state_is (world_of c.args.engine.now.jobs no_mem) _ c.state_of.result c.requires (c.state_of.ensures no_mem) in
    subst (λ (r : Result State Refusal). IsOk r) (sym told) refl

pub returns : goal.returns
returns c =
    let told = state_is (world_of c.args.engine.now.jobs no_mem) _ c.state_of.result c.requires (c.state_of.ensures no_mem) in
    let same : c.unwrap-state.result ≡ state_of (jobs_of c.args.engine.now.jobs 0) = cc (told, c.unwrap-state.ensures) in
    ap (λ (b : Bank). b.a) c.bank.ensures ∙ ap (λ (s : State). (bank_of s.processor).a) same
