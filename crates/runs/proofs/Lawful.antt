-- The laws of runs and of steps.
use Rattle.std.proofs.Common.{◌≡◌, ℕ, zero, suc, ◌+◌, ◌-◌, ◌<◌, ◌≤◌, Some, None, Ok, Err, Option, Result, sym, refl, ap, ◌∙◌, subst, arith}
use Rattle.registers.specs.declared.processor.Processor.{Processor}
use Rattle.registers.specs.Processors.{with_p}
use Rattle.space.specs.Cells.{Cells}
use Rattle.stop.specs.declared.Fault.{Fault}
use Rattle.stop.specs.declared.Trap.{Trap}
use Rattle.stop.specs.declared.Trap.TheVariants.{Halt, SystemCall, Breakpoint}
use Rattle.stop.specs.declared.Stop.TheVariants.{Limit}
use Rattle.decode.specs.declared.instruction.Instruction.{Instruction}
use Rattle.processor.specs.declared.Done.{Done}
use Rattle.processor.specs.declared.effects.Carried.{Carried}
use Rattle.processor.specs.declared.fetching.Fetched.{Fetched}
use Rattle.processor.specs.Fetches.{fetch_of, operand_of}
use Rattle.processor.specs.Effects.{Effect, effect_of}
use Rattle.processor.specs.Steps.{settled, carried_out, decoded, step_of}
use Rattle.runs.specs.Runs.{Over, over, on_trap, on_answer, run_of, calls_in, calls_by}
use Rattle.runs.specs.Laws.{Went, Ends, Unstopped, RunLaws, Charged, StepLaws}

module _ (limit : ℕ) (c₀ : Processor) (s₀ : Cells) where
  -- What follows a step that counts: the rest of the run if it goes on.
  trap_ends : (o : Option Trap) (d : Done) (n t left : ℕ) (c : Processor) (s : Cells) → n < limit → Went c₀ s₀ n t c s → (step_of c s).answer ≡ Ok d
      → d.trap ≡ o
      → (Went c₀ s₀ (n + 1) (t + d.time) (step_of c s).cpu (step_of c s).cells
      → Ends limit c₀ s₀ (run_of left (n + 1) (t + d.time) (step_of c s).cpu (step_of c s).cells))
      → Ends limit c₀ s₀ (on_trap o (n + 1) (t + d.time) (run_of left) (step_of c s).cpu (step_of c s).cells)
  trap_ends None d n t left c s lt w h q go = go (Went.more d w h q)
  trap_ends (Some e) d n t left c s lt w h q go = Ends.by_trap d e lt w h q

  answer_ends : (r : Result Done Fault) (n t left : ℕ) (c : Processor) (s : Cells) → n < limit → Went c₀ s₀ n t c s → (step_of c s).answer ≡ r
      → ((d : Done) → Went c₀ s₀ (n + 1) (t + d.time) (step_of c s).cpu (step_of c s).cells
      → Ends limit c₀ s₀ (run_of left (n + 1) (t + d.time) (step_of c s).cpu (step_of c s).cells))
      → Ends limit c₀ s₀ (on_answer r n t (run_of left) (step_of c s).cpu (step_of c s).cells)
  answer_ends (Err e) n t left c s lt w h go = Ends.by_fault e lt w h
  answer_ends (Ok d) n t left c s lt w h go = trap_ends d.trap d n t left c s lt w h refl (go d)

  run_ends : (left n t : ℕ) (c : Processor) (s : Cells) → n + left ≡ limit → Went c₀ s₀ n t c s → Ends limit c₀ s₀ (run_of left n t c s)
  run_ends zero n t c s e w =
      let same : n ≡ limit = omega arith in subst (λ (m : ℕ). Ends m c₀ s₀ (over Limit n t c s)) same (Ends.at_limit w)
  run_ends (suc left) n t c s e w =
      answer_ends (step_of c s).answer n t left c s (omega arith) w refl
      (λ d more. run_ends left (n + 1) (t + d.time) (step_of c s).cpu (step_of c s).cells (omega arith) more)

module _ {c₀ : Processor} {s₀ : Cells} where
  -- A run that begins with steps that do not stop is the run from where they lead.
  along : {n t : ℕ} {c : Processor} {s : Cells} → Went c₀ s₀ n t c s → (left : ℕ) → run_of (n + left) 0 0 c₀ s₀ ≡ run_of left n t c s
  along Went.none left = let e : 0 + left ≡ left = omega arith in ap (λ m. run_of m 0 0 c₀ s₀) e
  along (Went.more {n = n} {t = t} {c' = c} {s' = s} d w h q) left =
      let e : n + 1 + left ≡ n + suc left = omega arith in
      ap (λ m. run_of m 0 0 c₀ s₀) e ∙ along w (suc left)
      ∙ ap (λ r. on_answer r n t (run_of left) (step_of c s).cpu (step_of c s).cells) h
      ∙ ap (λ o. on_trap o (n + 1) (t + d.time) (run_of left) (step_of c s).cpu (step_of c s).cells) q

  only : {limit : ℕ} {o : Over} → Ends limit c₀ s₀ o → o ≡ run_of limit 0 0 c₀ s₀
  only {limit} (Ends.at_limit w) = let e : limit + 0 ≡ limit = omega arith in sym (along w 0) ∙ ap (λ m. run_of m 0 0 c₀ s₀) e
  only {limit} (Ends.by_trap {n = n} {t = t} {c' = c} {s' = s} d x lt w h q) =
      let left : ℕ = limit - (n + 1) in
      let e : n + suc (limit - (n + 1)) ≡ limit = omega arith in
      sym (ap (λ o. on_trap o (n + 1) (t + d.time) (run_of left) (step_of c s).cpu (step_of c s).cells) q)
      ∙ sym (ap (λ r. on_answer r n t (run_of left) (step_of c s).cpu (step_of c s).cells) h)
      ∙ sym (along w (suc left)) ∙ ap (λ m. run_of m 0 0 c₀ s₀) e
  only {limit} (Ends.by_fault {n = n} {t = t} {c' = c} {s' = s} x lt w h) =
      let left : ℕ = limit - (n + 1) in
      let e : n + suc (limit - (n + 1)) ≡ limit = omega arith in
      sym (ap (λ r. on_answer r n t (run_of left) (step_of c s).cpu (step_of c s).cells) h)
      ∙ sym (along w (suc left)) ∙ ap (λ m. run_of m 0 0 c₀ s₀) e

within : {limit : ℕ} {c : Processor} {s : Cells} {o : Over} → Ends limit c s o → o.answer.steps ≤ limit
within (Ends.at_limit w) = omega arith
within (Ends.by_trap d x lt w h q) = omega arith
within (Ends.by_fault x lt w h) = omega arith

limited : {limit : ℕ} {c : Processor} {s : Cells} {o : Over} → Ends limit c s o → o.answer.stop ≡ Limit
    → (o.answer.steps ≡ limit) × Unstopped limit c s
limited (Ends.at_limit w) e = (refl, record { time = _; cpu = _; cells = _; went = w })
limited (Ends.by_trap d x lt w h q) e = let z : ◌≡◌ {A = ℕ} 0 1 = cc in absurd (omega arith)
limited (Ends.by_fault x lt w h) e = let z : ◌≡◌ {A = ℕ} 0 1 = cc in absurd (omega arith)

calls_few : (e : Trap) → calls_by e ≤ 1
calls_few Halt = omega arith
calls_few SystemCall = omega arith
calls_few Breakpoint = omega arith

calls_within : {limit : ℕ} {c : Processor} {s : Cells} {o : Over} → Ends limit c s o → calls_in o.answer.stop ≤ o.answer.steps
calls_within (Ends.at_limit w) = omega arith
calls_within (Ends.by_trap d x lt w h q) = omega (arith, calls_few x)
calls_within (Ends.by_fault x lt w h) = omega arith

pub run_laws : (limit : ℕ) (c : Processor) (s : Cells) (o : Over) → o ≡ run_of limit 0 0 c s → RunLaws limit c s o
run_laws limit c s o e =
    let ends : Ends limit c s o = subst (Ends limit c s) (sym e) (run_ends limit c s limit 0 0 c s (omega arith) Went.none) in
    record {
      ends = ends;
      only = λ o' x. only x ∙ sym e;
      within = within ends;
      limited = limited ends;
      unstopped = λ u.
          let y : over Limit limit u.time u.cpu u.cells ≡ o = only (Ends.at_limit u.went) ∙ sym e in
          (sym (ap (λ x. x.answer.steps) y), sym (ap (λ x. x.answer.stop) y));
    }

-- A run has at most one system call, and it counts as a step.
pub run_calls : (limit : ℕ) (c : Processor) (s : Cells) (o : Over) → o ≡ run_of limit 0 0 c s → calls_in o.answer.stop ≤ o.answer.steps
run_calls limit c s o e = calls_within (run_laws limit c s o e).ends

settled_faulted : (r : Result Carried Fault) (x : Instruction) (at : ℕ) (c : Processor) (s : Cells) (e : Fault) → (settled r x at c s).answer ≡ Err e
    → (settled r x at c s).cpu.p ≡ at
settled_faulted (Ok d) x at c s e h = let z : ◌≡◌ {A = ℕ} 0 1 = cc in absurd (omega arith)
settled_faulted (Err f) x at c s e h = refl

carried_faulted : (r : Result (Fetched ℕ) Fault) (x : Instruction) (c : Processor) (s : Cells) (e : Fault) → (carried_out r x c s).answer ≡ Err e
    → (carried_out r x c s).cpu.p ≡ c.p
carried_faulted (Err f) x c s e h = refl
carried_faulted (Ok o) x c s e h =
    let y : Effect = effect_of x o.value (with_p c o.next) s in settled_faulted y.answer x c.p y.cpu y.cells e h

decoded_faulted : (r : Result (Fetched Instruction) Fault) (c : Processor) (s : Cells) (e : Fault) → (decoded r c s).answer ≡ Err e → (decoded r c s).cpu.p ≡ c.p
decoded_faulted (Err f) c s e h = refl
decoded_faulted (Ok f) c s e h = carried_faulted (operand_of f.value s f.next) f.value c s e h

module _ (c : Processor) (s : Cells) (d : Done) where
  settled_charged : (f : Fetched Instruction) (o : Fetched ℕ) (r : Result Carried Fault) (m : Processor) (u : Cells) → fetch_of s c.p ≡ Ok f
      → operand_of f.value s f.next ≡ Ok o → (effect_of f.value o.value (with_p c o.next) s).answer ≡ r
      → (settled r f.value c.p m u).answer ≡ Ok d → Charged c s d
  settled_charged f o (Err e) m u p q x h = let z : ◌≡◌ {A = ℕ} 0 1 = cc in absurd (omega arith)
  settled_charged f o (Ok k) m u p q x h =
      record { fetched = f; operand = o; carried = k; at_p = p; after_op = q; carried_out_is = x; time = cc; trap = cc }

  carried_charged : (f : Fetched Instruction) (r : Result (Fetched ℕ) Fault) → fetch_of s c.p ≡ Ok f → operand_of f.value s f.next ≡ r
      → (carried_out r f.value c s).answer ≡ Ok d → Charged c s d
  carried_charged f (Err e) p q h = let z : ◌≡◌ {A = ℕ} 0 1 = cc in absurd (omega arith)
  carried_charged f (Ok o) p q h =
      let y : Effect = effect_of f.value o.value (with_p c o.next) s in
      settled_charged f o y.answer y.cpu y.cells p q refl h

  decoded_charged : (r : Result (Fetched Instruction) Fault) → fetch_of s c.p ≡ r → (decoded r c s).answer ≡ Ok d → Charged c s d
  decoded_charged (Err e) p h = let z : ◌≡◌ {A = ℕ} 0 1 = cc in absurd (omega arith)
  decoded_charged (Ok f) p h = carried_charged f (operand_of f.value s f.next) p refl h

pub step_laws : StepLaws
step_laws =
    record {
      charged = λ c s d h. decoded_charged c s d (fetch_of s c.p) refl h;
      faulted = λ c s e h. decoded_faulted (fetch_of s c.p) c s e h;
    }
