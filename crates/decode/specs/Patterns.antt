-- The instruction of each op code, by its three octal digits: the top one, d and l.
use Rattle.std.specs.Prelude.{ℕ, ◌/◌, ◌%◌, Bool, cond, ◌&&◌, ◌||◌, Some, None, Ok, Err, Option, Result, ◌==◌, nat_le, nat_lt}
use Rattle.registers.specs.declared.bank.Pair.{Pair}
use Rattle.alu.specs.declared.Shift.TheVariants.{LeftCircular, RightCircular, RightExtended}
use Rattle.stop.specs.declared.Fault.{Fault}
use Rattle.stop.specs.declared.Fault.TheVariants.{Privileged, NotCarried}
use Rattle.decode.specs.declared.instruction.Selector.{Selector}
use Rattle.decode.specs.declared.instruction.Selector.TheVariants as s
use Rattle.decode.specs.declared.instruction.Source.TheVariants.{Immediate}
use Rattle.decode.specs.declared.instruction.Instruction.{Instruction}
use Rattle.decode.specs.declared.instruction.Instruction.TheVariants as i
use Rattle.decode.specs.Digits.{register_of, condition_of, operation_of, source_of, implied_by, pair_by}

abbrev pub Answer : Type 0
Answer = Result Instruction Fault

-- The digits d and l are these.
abbrev pub are : ℕ → ℕ → ℕ → ℕ → Bool
are d l d' l' = d == d' && l == l'

-- 0dl without a selecting byte, of those that have no form with one.
abbrev pub first_plain_of : ℕ → ℕ → Answer
first_plain_of d l =
    cond (are d l 0 0 || are d l 0 1) (Ok i.Halt)
    (cond (are d l 0 7) (Ok i.Return)
    (cond (are d l 1 1) (Ok i.FieldAdd)
    (cond (are d l 2 0) (Ok i.SelectBeta)
    (cond (are d l 2 1) (Ok i.BlockTransfer)
    (cond (are d l 3 0) (Ok i.SelectAlpha)
    (cond (are d l 3 1) (Ok i.FieldSubtract)
    (cond (are d l 4 0) (Ok i.DisableInterrupts)
    (cond (are d l 5 0) (Ok i.EnableInterrupts)
    (cond (are d l 5 1) (Ok i.PushImmediate)
    (cond (are d l 5 2) (Ok i.Break)
    (cond (are d l 6 7) (Ok i.CallSystem)
    (cond (are d l 7 7) (Err Privileged)
    (cond (l == 3) (Ok (i.ReturnIf (condition_of d)))
    (cond (l == 6) (Ok (i.LoadImmediate (register_of d)))
    (Err NotCarried)))))))))))))))

-- 0dl, of those that mean another thing after a selecting byte, or nothing.
abbrev pub first_after_of : Option Selector → ℕ → ℕ → Answer
first_after_of None d l = first_plain_of d l
first_after_of (Some s.B) d l = cond (are d l 2 1) (Ok i.BlockTransferReverse) (Err NotCarried)
first_after_of (Some s.C) d l = cond (are d l 2 1) (Ok i.BlockConvert) (Err NotCarried)
first_after_of (Some s.D) d l = Err NotCarried
first_after_of (Some s.E) d l = Err NotCarried
first_after_of (Some s.H) d l = Err NotCarried
first_after_of (Some s.L) d l = Err NotCarried
first_after_of (Some s.X) d l = Err NotCarried

-- What there is, or no instruction that is carried.
abbrev pub carried : Option Pair → Result Pair Fault
carried (Some p) = Ok p
carried None = Err NotCarried

-- The instruction of the pair, if the selecting byte selects one.
abbrev pub paired : (Pair → Instruction) → Option Pair → Answer
paired f (Some p) = Ok (f p)
paired f None = Err NotCarried

-- 0dl
abbrev pub first_of : Option Selector → ℕ → ℕ → Answer
first_of s d l =
    cond (are d l 0 2) (Ok (i.Shift LeftCircular (implied_by s)))
    (cond (are d l 1 2) (Ok (i.Shift RightCircular (implied_by s)))
    (cond (are d l 3 2) (Ok (i.Shift RightExtended (implied_by s)))
    (cond (are d l 6 0) (paired i.Pop (pair_by s))
    (cond (are d l 7 0) (paired i.Push (pair_by s))
    (cond (are d l 7 2) (Err Privileged)
    (cond (l == 4) (Ok (i.Operate (operation_of d) Immediate (implied_by s)))
    (first_after_of s d l)))))))

-- What has no form with a selecting byte.
abbrev pub if_none : Option Selector → Answer → Answer
if_none None x = x
if_none (Some s) x = Err NotCarried

-- 1dl
abbrev pub second_of : Option Selector → ℕ → ℕ → Answer
second_of s d l =
    cond (are d l 0 1 || are d l 0 3) (Err Privileged)
    (cond (l % 2 == 1 && ((nat_le 2 d && nat_lt d 5) || (are d l 5 1 || are d l 5 3))) (Err Privileged)
    (if_none s
    (cond (are d l 0 4) (Ok i.Jump)
    (cond (are d l 0 6) (Ok i.Call)
    (cond (l == 0) (Ok (i.JumpIf (condition_of d)))
    (cond (l == 2) (Ok (i.CallIf (condition_of d)))
    (Err NotCarried)))))))

-- 3dl
abbrev pub last_of : Option Selector → ℕ → ℕ → Answer
last_of s d l =
    cond (are d l 7 7) (if_none s (Ok i.Halt))
    (cond (l == 7) (paired (i.LoadFromMemory (register_of d)) (pair_by s))
    (cond (d == 7) (paired (i.StoreToMemory (register_of l)) (pair_by s))
    (if_none s (Ok (i.Load (register_of d) (register_of l))))))

-- By the top digit.
abbrev pub quarter : ℕ → Answer → Answer → Answer → Answer → Answer
quarter t w x y z = cond (t == 0) w (cond (t == 1) x (cond (t == 2) y z))

-- 0dl, 1dl, 2dl and 3dl.
abbrev pub decode_of : Option Selector → ℕ → Answer
decode_of s op =
    quarter (op / 64) (first_of s (op / 8 % 8) (op % 8)) (second_of s (op / 8 % 8) (op % 8))
    (Ok (i.Operate (operation_of (op / 8 % 8)) (source_of (op % 8)) (implied_by s)))
    (last_of s (op / 8 % 8) (op % 8))
