-- What the console's answers mean, in the model's words.
use Rattle.std.specs.Prelude.{◌≡◌, Ok, Err, vec_items, vec_len, Result}
use Rattle.refusal.specs.Judging.{Judgement}
use Rattle.model.specs.Calls.{opens, asks, loads, runs, replies, abandons, looks, states, closes, refused, done, ran, saw, told}
use Rattle.model.specs.Calls as model
use Rattle.model.specs.Acts.{judge_receipt}
use Rattle.model.specs.Worlds.{World, does}
use Rattle.script.specs.declared.commands.Call.{Call}
use Rattle.script.specs.declared.commands.Call.TheVariants.{Open, Load, Run, Reply, Abandon, Look, State, Close}
use Rattle.script.specs.declared.faults.Fault.TheVariants.{NoSuchReceipt}
use Rattle.desk.specs.declared.desk.NotHeld.{NotHeld}
use Rattle.desk.specs.Owing.{owed_as}
use Rattle.desk.specs.Answers.{held_answer}
use Rattle.console.specs.declared.answers.Answer.{Answer}
use Rattle.console.specs.declared.answers.Answer.TheVariants.{Done, Ran, Saw, Told, Number, Image}
use Rattle.console.specs.declared.answers.Denial.{Denial}
use Rattle.console.specs.declared.answers.Denial.TheVariants.{Refused, Error}

-- What an answer says of a call of the engine. A number, an image and an error answer none.
abbrev pub says : Result Answer Denial → model.Answer
says (Ok Done) = done
says (Ok (Ran f)) = ran f.run (owed_as f.job f.owed)
says (Ok (Saw v)) = saw (vec_items v)
says (Ok (Told s)) = told s
says (Err (Refused e)) = refused e
says (Ok (Number n)) = done
says (Ok (Image i)) = done
says (Err (Error f)) = done

-- A reply or an abandoning: done where the receipt is held, else an error.
abbrev pub settled_answer : Result (Unit {0}) NotHeld → Result Answer Denial
settled_answer (Ok u) = Ok Done
settled_answer (Err e) = Err (Error NoSuchReceipt)

abbrev pub held_or : Judgement → Result Answer Denial
held_or z = settled_answer (held_answer z)

-- The world after a call of a script, and its answer.
abbrev pub Answered : Call → World → World → Result Answer Denial → Type 0
Answered (Open job start table) w v r = does (opens job table start) w ≡ record { world = v; answer = says r }
Answered (Load job at bytes) w v r = does (asks job (loads at (vec_items bytes))) w ≡ record { world = v; answer = says r }
Answered (Run job limit) w v r = does (asks job (runs limit)) w ≡ record { world = v; answer = says r }
Answered (Reply job number registers) w v r = (v ≡ (does (asks job (replies number registers)) w).world) × (r ≡ held_or (judge_receipt job number (w.jobs job)))
Answered (Abandon job number) w v r = (v ≡ (does (asks job (abandons number)) w).world) × (r ≡ held_or (judge_receipt job number (w.jobs job)))
Answered (Look job at buffer) w v r = does (asks job (looks at (vec_len buffer))) w ≡ record { world = v; answer = says r }
Answered (State job) w v r = does (asks job states) w ≡ record { world = v; answer = says r }
Answered (Close job) w v r = does (asks job closes) w ≡ record { world = v; answer = says r }
