-- Whatever every store keeps, a step and a run keep. So a run changes only bytes of cells that may be written.
use Rattle.std.proofs.Common.{◌≡◌, ℕ, zero, suc, ◌+◌, ◌*◌, ◌%◌, Bool, true, false, cond, ◌&&◌, eqb, Some, None, Ok, Err, Option, Result, sym, refl, ap, ◌∙◌, eqb-true}
use Rattle.registers.specs.declared.bank.Bank.{Bank}
use Rattle.registers.specs.declared.bank.Flags.{Flags}
use Rattle.registers.specs.declared.bank.Pair.TheVariants.{HL, DE}
use Rattle.registers.specs.declared.bank.Register.{Register}
use Rattle.registers.specs.declared.processor.Processor.{Processor}
use Rattle.registers.specs.Banks.{value_in, pair_in, holds_of}
use Rattle.registers.specs.Processors.{bank_of, with_p}
use Rattle.alu.specs.declared.Operation.{Operation}
use Rattle.alu.specs.declared.Operation.TheVariants.{AddCarry, SubtractBorrow}
use Rattle.alu.specs.Operations.{result_of}
use Rattle.space.specs.Cells.{Cells, read_of, allow_of, store_of}
use Rattle.stop.specs.declared.Fault.{Fault}
use Rattle.stop.specs.declared.Trap.{Trap}
use Rattle.decode.specs.declared.instruction.Instruction.{Instruction}
use Rattle.decode.specs.declared.instruction.Instruction.TheVariants as i
use Rattle.block.specs.declared.transfers.Block.{Block}
use Rattle.block.specs.declared.transfers.Block.TheVariants.{Forward, Backward, Convert}
use Rattle.block.specs.Afters.{After, and_then}
use Rattle.block.specs.Transfers.{stored, element_of, onward, placed, converted_of, element_by, counted, Moved, ended, next, block_from, more_of}
use Rattle.block.specs.Fields.{Worked, field_element_of, field_next, field_from, width_of}
use Rattle.processor.specs.declared.Done.{Done}
use Rattle.processor.specs.declared.effects.Carried.{Carried}
use Rattle.processor.specs.declared.fetching.Fetched.{Fetched}
use Rattle.processor.specs.Fetches.{fetch_of, operand_of}
use Rattle.processor.specs.Effects.{Effect, on, plain, taken, called_to, returned, source_in, read_into, wrote, operated_with, effect_of}
use Rattle.processor.specs.Steps.{settled, carried_out, decoded, step_of}
use Rattle.runs.specs.Runs.{Over, on_trap, on_answer, run_of}

module _ (P : Cells → Type 0) (store : (s : Cells) (a b : ℕ) → P s → P (store_of s a b)) where
  then_kept : {X Y : Type 0} (r : Result X Fault) (k : Bank) (s : Cells) (f : X → After (Result Y Fault)) → P s → ((x : X) → P (f x).cells) → P (and_then r k s f).cells
  then_kept (Ok x) k s f h g = g x
  then_kept (Err e) k s f h g = h

  stored_kept : (b : ℕ) (k : Bank) (s : Cells) (m : Bank) → P s → P (stored b k s m).cells
  stored_kept b k s m h = then_kept (allow_of s (pair_in k DE)) k s _ h (λ u. store s (pair_in k DE) b h)

  element_kept : (by : ℕ) (k : Bank) (s : Cells) → P s → P (element_of by k s).cells
  element_kept by k s h = then_kept (read_of s (pair_in k HL)) k s _ h (λ b. stored_kept ((b + k.a) % 256) k s (onward by k) h)

  converted_kept : (k : Bank) (s : Cells) → P s → P (converted_of k s).cells
  converted_kept k s h =
      then_kept (read_of s (pair_in k DE)) k s _ h
      (λ b. then_kept (read_of s (k.h * 256 + (b + k.l) % 256)) k s _ h (λ t. stored_kept t k s (placed ((b + k.l) % 256) k) h))

  by_kept : (x : Block) (k : Bank) (s : Cells) → P s → P (element_by x k s).cells
  by_kept Forward k s h = element_kept 1 k s h
  by_kept Backward k s h = element_kept 65535 k s h
  by_kept Convert k s h = converted_kept k s h

  test_kept : {R : Type 0} (cells : R → Cells) (z : Bool) (x y : R) → P (cells x) → P (cells y) → P (cells (cond z x y))
  test_kept cells true x y f g = f
  test_kept cells false x y f g = g

  onward_kept : (r : Result ℕ Fault) (n : ℕ) (rest : ℕ → Bank → Cells → Moved) (k : Bank) (s : Cells) → P s → ((sum : ℕ) (m : Bank) (u : Cells) → P u → P (rest sum m u).cells) → P (next r n rest k s).cells
  onward_kept (Err e) n rest k s h g = h
  onward_kept (Ok sum) n rest k s h g = test_kept (λ (m : Moved). m.cells) (eqb sum 256) (ended n true sum k s) (rest sum (counted k) s) h (g sum (counted k) s h)

  block_kept : (x : Block) (more before : ℕ) (k : Bank) (s : Cells) → P s → P (block_from x more before k s).cells
  block_kept x zero before k s h = onward_kept (element_by x k s).answer (before + 1) (ended (before + 1) false) (element_by x k s).bank (element_by x k s).cells (by_kept x k s h) (λ sum m u g. g)
  block_kept x (suc more) before k s h =
      onward_kept (element_by x k s).answer (before + 1) (λ sum. block_from x more (before + 1)) (element_by x k s).bank (element_by x k s).cells (by_kept x k s h) (λ sum m u g. block_kept x more (before + 1) m u g)

  cell_kept : (o : Operation) (k : Bank) (s : Cells) → P s → P (field_element_of o k s).cells
  cell_kept o k s h =
      then_kept (read_of s (pair_in k HL)) k s _ h
      (λ b. then_kept (read_of s (pair_in k DE)) k s _ h (λ a. then_kept (allow_of s (pair_in k DE)) k s _ h (λ u. store s (pair_in k DE) (result_of o a b k.flags.carry).byte h)))

  next_kept : (r : Result (Unit {0}) Fault) (f : Flags) (rest : Bank → Cells → Worked) (k : Bank) (s : Cells) → P s → (P s → P (rest k s).cells) → P (field_next r f rest k s).cells
  next_kept (Ok u) f rest k s h g = g h
  next_kept (Err e) f rest k s h g = h

  field_kept : (o : Operation) (f : Flags) (left : ℕ) (k : Bank) (s : Cells) → P s → P (field_from o f left k s).cells
  field_kept o f zero k s h = h
  field_kept o f (suc left) k s h =
      let y : Worked = field_element_of o k s in
      next_kept y.answer f (field_from o f left) y.bank y.cells (cell_kept o k s h) (field_kept o f left y.bank y.cells)

  read_kept : (x : Result ℕ Fault) (r : Register) (c : Processor) (s : Cells) → P s → P (read_into x r c s).cells
  read_kept (Ok b) r c s h = h
  read_kept (Err e) r c s h = h

  wrote_kept : (x : Result (Unit {0}) Fault) (c : Processor) (s : Cells) → P s → P (wrote x c s).cells
  wrote_kept (Ok b) c s h = h
  wrote_kept (Err e) c s h = h

  operated_kept : (x : Result ℕ Fault) (o : Operation) (r : Register) (c : Processor) (s : Cells) → P s → P (operated_with x o r c s).cells
  operated_kept (Ok b) o r c s h = h
  operated_kept (Err e) o r c s h = h

  effect_kept : (x : Instruction) (v : ℕ) (c : Processor) (s : Cells) → P s → P (effect_of x v c s).cells
  effect_kept i.Halt v c s h = h
  effect_kept (i.LoadImmediate r) v c s h = h
  effect_kept (i.Load d r) v c s h = h
  effect_kept (i.LoadFromMemory d p) v c s h = read_kept (read_of s (pair_in (bank_of c) p)) d c s h
  effect_kept (i.StoreToMemory r p) v c s h = wrote_kept (allow_of s (pair_in (bank_of c) p)) c (store_of s (pair_in (bank_of c) p) (value_in (bank_of c) r)) (store s (pair_in (bank_of c) p) (value_in (bank_of c) r) h)
  effect_kept (i.Operate o from t) v c s h = operated_kept (source_in from s (bank_of c) v) o t c s h
  effect_kept (i.Shift t r) v c s h = h
  effect_kept i.Jump v c s h = h
  effect_kept (i.JumpIf k) v c s h = test_kept (λ (e : Effect). e.cells) (holds_of k (bank_of c).flags) (on taken (with_p c v) s) (on plain c s) h h
  effect_kept i.Call v c s h = h
  effect_kept (i.CallIf k) v c s h = test_kept (λ (e : Effect). e.cells) (holds_of k (bank_of c).flags) (on taken (called_to c v) s) (on plain c s) h h
  effect_kept i.Return v c s h = h
  effect_kept (i.ReturnIf k) v c s h = test_kept (λ (e : Effect). e.cells) (holds_of k (bank_of c).flags) (on taken (returned c) s) (on plain c s) h h
  effect_kept (i.Push p) v c s h = h
  effect_kept i.PushImmediate v c s h = h
  effect_kept (i.Pop p) v c s h = h
  effect_kept i.EnableInterrupts v c s h = h
  effect_kept i.DisableInterrupts v c s h = h
  effect_kept i.SelectAlpha v c s h = h
  effect_kept i.SelectBeta v c s h = h
  effect_kept i.BlockTransfer v c s h = block_kept Forward (more_of (bank_of c)) 0 (bank_of c) s h
  effect_kept i.BlockTransferReverse v c s h = block_kept Backward (more_of (bank_of c)) 0 (bank_of c) s h
  effect_kept i.BlockConvert v c s h = block_kept Convert (more_of (bank_of c)) 0 (bank_of c) s h
  effect_kept i.FieldAdd v c s h = field_kept AddCarry (bank_of c).flags (width_of (bank_of c).c) (bank_of c) s h
  effect_kept i.FieldSubtract v c s h = field_kept SubtractBorrow (bank_of c).flags (width_of (bank_of c).c) (bank_of c) s h
  effect_kept i.CallSystem v c s h = h
  effect_kept i.Break v c s h = h

  settled_kept : (r : Result Carried Fault) (x : Instruction) (at : ℕ) (c : Processor) (s : Cells) → P s → P (settled r x at c s).cells
  settled_kept (Ok d) x at c s h = h
  settled_kept (Err e) x at c s h = h

  carried_kept : (r : Result (Fetched ℕ) Fault) (x : Instruction) (c : Processor) (s : Cells) → P s → P (carried_out r x c s).cells
  carried_kept (Err e) x c s h = h
  carried_kept (Ok o) x c s h =
      let y : Effect = effect_of x o.value (with_p c o.next) s in
      settled_kept y.answer x c.p y.cpu y.cells (effect_kept x o.value (with_p c o.next) s h)

  decoded_kept : (r : Result (Fetched Instruction) Fault) (c : Processor) (s : Cells) → P s → P (decoded r c s).cells
  decoded_kept (Err e) c s h = h
  decoded_kept (Ok f) c s h = carried_kept (operand_of f.value s f.next) f.value c s h

  pub step_kept : (c : Processor) (s : Cells) → P s → P (step_of c s).cells
  step_kept c s h = decoded_kept (fetch_of s c.p) c s h

  trap_kept : (o : Option Trap) (n t : ℕ) (rest : ℕ → ℕ → Processor → Cells → Over) (c : Processor) (s : Cells) → P s → ((m u : ℕ) (d : Processor) (v : Cells) → P v → P (rest m u d v).cells) → P (on_trap o n t rest c s).cells
  trap_kept None n t rest c s h g = g n t c s h
  trap_kept (Some e) n t rest c s h g = h

  answer_kept : (r : Result Done Fault) (n t : ℕ) (rest : ℕ → ℕ → Processor → Cells → Over) (c : Processor) (s : Cells) → P s → ((m u : ℕ) (d : Processor) (v : Cells) → P v → P (rest m u d v).cells) → P (on_answer r n t rest c s).cells
  answer_kept (Err e) n t rest c s h g = h
  answer_kept (Ok d) n t rest c s h g = trap_kept d.trap (n + 1) (t + d.time) rest c s h g

  pub run_kept : (left n t : ℕ) (c : Processor) (s : Cells) → P s → P (run_of left n t c s).cells
  run_kept zero n t c s h = h
  run_kept (suc left) n t c s h =
      answer_kept (step_of c s).answer n t (run_of left) (step_of c s).cpu (step_of c s).cells (step_kept c s h) (λ m u d v g. run_kept left m u d v g)

-- A run changes only bytes of cells that may be written.
pub record Quiet (s u : Cells) (a : ℕ) : Type 0 where
  pub access : (u a).access ≡ (s a).access
  pub takes : (u a).takes ≡ (s a).takes
  pub writable : (u a).writable ≡ (s a).writable
  pub byte : ((s a).access && (s a).writable) ≡ false → (u a).byte ≡ (s a).byte

missed : (k a : ℕ) (f : ℕ → Bool) → f k ≡ false → (eqb k a && f a) ≡ false
missed k a f h = go (eqb k a) refl
  where
    go : (z : Bool) → eqb k a ≡ z → (z && f a) ≡ false
    go true e = ap f (sym (eqb-true k a e)) ∙ h
    go false e = refl

quiet_store : (s u : Cells) (a b : ℕ) → ((k : ℕ) → Quiet s u k) → (k : ℕ) → Quiet s (store_of u a b) k
quiet_store s u a b q k = record {
  access = (q k).access;
  takes = (q k).takes;
  writable = (q k).writable;
  byte = λ h.
      let no : ((u k).access && (u k).writable) ≡ false = ap (λ z. z && (u k).writable) (q k).access ∙ ap (λ z. (s k).access && z) (q k).writable ∙ h in
      ap (λ z. cond z b (u k).byte) (missed k a (λ y. (u y).access && (u y).writable) no) ∙ (q k).byte h;
}

pub run_quiet : (left n t : ℕ) (c : Processor) (s : Cells) (a : ℕ) → Quiet s (run_of left n t c s).cells a
run_quiet left n t c s = run_kept (λ u. (k : ℕ) → Quiet s u k) (λ u a b q. quiet_store s u a b q) left n t c s (λ k. record { access = refl; takes = refl; writable = refl; byte = λ h. refl })
