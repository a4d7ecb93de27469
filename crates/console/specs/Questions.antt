-- What questions are answered, and the FNV-1a hash of 64 bits.
use Rattle.std.specs.Prelude.{◌≡◌, ℕ, zero, suc, ◌*◌, ◌%◌, ◌^◌, cond, Ok, Err, Result, bit_xor}
use Rattle.refusal.specs.declared.Refusal.{Refusal}
use Rattle.memory.specs.Memories.{Mem, sixteenth}
use Rattle.decode.specs.Lengths.{length_of}
use Rattle.script.specs.declared.commands.Question.{Question}
use Rattle.script.specs.declared.commands.Question.TheVariants.{Read, Takes, Hash, Length, Image}
use Rattle.console.specs.declared.answers.Answer.{Answer}
use Rattle.console.specs.declared.answers.Answer.TheVariants.{Number}
use Rattle.console.specs.declared.answers.Denial.{Denial}
use Rattle.console.specs.declared.answers.Denial.TheVariants.{Refused}

abbrev pub hash_step : ℕ → ℕ → ℕ
hash_step h b = (bit_xor h b * 1099511628211) % 2 ^ 64

-- The hash of the first `n` bytes.
unfoldable pub hash_of : (ℕ → ℕ) → ℕ → ℕ
hash_of f zero = 14695981039346656037
hash_of f (suc n) = hash_step (hash_of f n) (f n)

-- Whether a page takes writes, as 1 or 0, or the refusal of its number.
abbrev pub takes_answer : Mem → Result ℕ Refusal → Result Answer Denial
takes_answer m (Ok p) = Ok (Number (cond (m.takes p) 1 0))
takes_answer m (Err e) = Err (Refused e)

-- The answer to each question but that on an image, of which nothing is said here.
abbrev pub Asked : Question → Mem → Result Answer Denial → Type 0
Asked (Read at) m r = r ≡ Ok (Number (m.byte at))
Asked (Takes page) m r = r ≡ takes_answer m (sixteenth page)
Asked Hash m r = r ≡ Ok (Number (hash_of m.byte 65536))
Asked (Length code) m r = r ≡ Ok (Number (length_of code))
Asked (Image bytes) m r = Unit {0}
