-- A load, a byte at a time.
use Rattle.std.proofs.Common.{◌≡◌, ℕ, ◌+◌, ◌-◌, ◌*◌, ◌/◌, ◌%◌, ◌<◌, ◌≤◌, Bool, true, false, cond, ◌&&◌, eqb, ltb, leb, List, length, get_or, None, Ok, sym, refl, ap, ◌∙◌, arith, eq-eqb, ne_eqb, eqb-true, ⊎_elim}
use mathlib.Core.Path.{fun_ext}
use Rattle.std.specs.Cmp.{both_ways as same_answer}
use borrow.Author.Tests.{eqb-false}
use Rattle.std.proofs.lemmas.Bool.{not-false, ltb-false, and_from, and_parts}
use Rattle.std.proofs.lemmas.Bool.Decides.{nat_tests}
use Rattle.refusal.specs.declared.Ground.TheVariants.{OutOfRange, NoAccess, NoWrites}
use Rattle.refusal.specs.Judging.{at, picked, first_from}
use Rattle.refusal.proofs.Searches.{none_passes}
use Rattle.memory.specs.Memories.{Mem, put}
use Rattle.space.specs.Cells.{Cells}
use Rattle.table.specs.Tables.{Apart, entry_of, access_in, physical}
use Rattle.table.proofs.Places.{one_place}
use Rattle.pages.specs.Held.{Table, page_of, shown, bytes_of, holds, back, back_byte}
use Rattle.pages.specs.Entries.{shut_at, refuses_at}
use Rattle.pages.specs.Loads.{past, judge_load, laid_to, laid}
use Rattle.std.proofs.lemmas.Bool.{both_ways, cases_Bool}
use Rattle.pages.proofs.Spaces.{lands, shown_at, place_page, holds_at}
use Rattle.pages.proofs.Clears.{with_bytes}
use Rattle.refusal.proofs.Judgements.{passed, nowhere}

-- What an accepted load says of each of its addresses.
picked_none : (z : Bool) (n : ℕ) → picked z n None ≡ None → z ≡ false
picked_none true n p = absurd (let z : ◌≡◌ {A = ℕ} 0 1 = cc in omega arith)
picked_none false n p = refl

pub record Accepted (a : ℕ) (bs : List ℕ) (s : Cells) : Type 0 where
  pub within : a + length bs ≤ 65536
  pub access : (i : ℕ) → i < length bs → (s (a + i)).access ≡ true
  pub takes : (i : ℕ) → i < length bs → (s (a + i)).takes ≡ true

pub accepted : (a : ℕ) (bs : List ℕ) (s : Cells) → judge_load a bs s ≡ Ok tt → Accepted a bs s
accepted a bs s e =
    let one = passed (at OutOfRange (past a (length bs))) _ e in
    let two = passed (at NoAccess (first_from (length bs) a (shut_at s))) _ one.1 in
    let three = passed (at NoWrites (first_from (length bs) a (refuses_at s))) _ two.1 in
    record {
      within = ltb-false 65536 (a + length bs) (picked_none (ltb 65536 (a + length bs)) a (nowhere OutOfRange (past a (length bs)) one.0));
      access = λ i h. not-false (s (a + i)).access (none_passes (shut_at s) (length bs) a (nowhere NoAccess _ two.0) (a + i) (omega arith) (omega arith));
      takes = λ i h. not-false (s (a + i)).takes (none_passes (refuses_at s) (length bs) a (nowhere NoWrites _ three.0) (a + i) (omega arith) (omega arith));
    }

-- A byte put at an address that the table reaches.
pick_one : (a q r : Bool) (b v : ℕ) → (a ≡ true → r ≡ q) → (a ≡ false → q ≡ false) → cond a (cond r b v) 0 ≡ cond q b (cond a v 0)
pick_one true q r b v h g = ap (λ z. cond z b v) (h refl)
pick_one false q r b v h g = ap (λ z. cond z b 0) (sym (g refl))

same_test : (a b c d : ℕ) → (a ≡ b → c ≡ d) → (c ≡ d → a ≡ b) → eqb a b ≡ eqb c d
same_test a b c d f g = same_answer (eqb a b) (eqb c d) (λ e. eq-eqb c d (f (eqb-true a b e))) (λ e. eq-eqb a b (g (eqb-true c d e)))

put_shown : (t : Table) → Apart t → (m : Mem) (a b : ℕ) → access_in (entry_of t (a / 4096)) ≡ true
    → bytes_of (shown t (with_bytes m (put m.byte (physical t a) b))) ≡ put (bytes_of (shown t m)) a b
unfolding shown
put_shown t once m a b acc =
    fun_ext
    (λ x. pick_one (access_in (entry_of t (x / 4096))) (eqb x a) (eqb (physical t x) (physical t a)) b (m.byte (physical t x))
    (λ h. same_test (physical t x) (physical t a) x a (one_place t once x a h acc) (ap (physical t)))
    (λ h. ne_eqb x a (λ e. absurd (both_ways (access_in (entry_of t (x / 4096))) h (ap (λ y. access_in (entry_of t (y / 4096))) e ∙ acc)))))

laid_none : (a : ℕ) (bs : List ℕ) (m : ℕ → ℕ) → laid_to 0 a bs m ≡ m
unfolding laid_to
laid_none a bs m = fun_ext (λ x. grind (arith, nat_tests))

laid_more : (n a : ℕ) (bs : List ℕ) (m : ℕ → ℕ) → put (laid_to n a bs m) (a + n) (get_or bs n 0) ≡ laid_to (n + 1) a bs m
unfolding laid_to
laid_more n a bs m =
    fun_ext
    (λ x. ⊎_elim
    (λ e. let q : x ≡ a + n = eqb-true x (a + n) e in let i : x - a ≡ n = omega arith in ap (λ z. cond z (get_or bs n 0) (laid_to n a bs m x)) e ∙ here x q i)
    (λ e. let d = eqb-false x (a + n) e in grind (arith, nat_tests, d))
    (cases_Bool (eqb x (a + n))))
  where
    here : (x : ℕ) → x ≡ a + n → x - a ≡ n → get_or bs n 0 ≡ cond (leb a x && ltb x (a + (n + 1))) (get_or bs (x - a) 0) (m x)
    here x q i = let r : get_or bs (x - a) 0 ≡ get_or bs n 0 = ap (λ y. get_or bs y 0) i in grind (arith, nat_tests)

-- A load of which the first `i` bytes are put.
pub record Laying (t : Table) (a : ℕ) (bs : List ℕ) (m₀ : Mem) (i : ℕ) (m : Mem) : Type 0 where
  pub fixed : m.takes ≡ m₀.takes
  pub same : bytes_of (shown t m) ≡ laid_to i a bs (bytes_of (shown t m₀))
  pub rest : (x : ℕ) → (holds t (x / 4096) && m₀.takes (x / 4096)) ≡ false → m.byte x ≡ m₀.byte x

pub lay_none : (t : Table) (a : ℕ) (bs : List ℕ) (m : Mem) → Laying t a bs m 0 m
lay_none t a bs m = record { fixed = refl; same = sym (laid_none a bs (bytes_of (shown t m))); rest = λ x e. refl }

module _ (t : Table) (once : Apart t) (a : ℕ) (bs : List ℕ) (m₀ : Mem) (fine : Accepted a bs (shown t m₀)) (i : ℕ) (m : Mem) (L : Laying t a bs m₀ i m) where
  access_here : i < length bs → access_in (entry_of t ((a + i) / 4096)) ≡ true
  unfolding shown
  access_here h = fine.access i h

  takes_here : i < length bs → m₀.takes (page_of t ((a + i) / 4096)) ≡ true
  unfolding shown
  takes_here h = (and_parts (access_in (entry_of t ((a + i) / 4096))) (m₀.takes (page_of t ((a + i) / 4096))) (fine.takes i h)).1

  -- The page of the next byte takes writes.
  pub lay_takes : (p : ℕ) → i < length bs → p ≡ physical t (a + i) → m.takes (p / 4096) ≡ true
  lay_takes p h e = ap (λ (f : ℕ → Bool). f (p / 4096)) L.fixed ∙ ap (λ x. m₀.takes (x / 4096)) e ∙ ap m₀.takes (place_page t (a + i)) ∙ takes_here h

  pub lay_more : (p : ℕ) (m' : Mem) → i < length bs → p ≡ physical t (a + i) → m' ≡ with_bytes m (put m.byte p (get_or bs i 0)) → Laying t a bs m₀ (i + 1) m'
  lay_more p m' h ep em =
      let e : m' ≡ with_bytes m (put m.byte (physical t (a + i)) (get_or bs i 0)) = em ∙ ap (λ x. with_bytes m (put m.byte x (get_or bs i 0))) ep in
      record {
        fixed = ap (λ (n : Mem). n.takes) e ∙ L.fixed;
        same =
            ap (λ (n : Mem). bytes_of (shown t n)) e ∙ put_shown t once m (a + i) (get_or bs i 0) (access_here h)
            ∙ ap (λ (f : ℕ → ℕ). put f (a + i) (get_or bs i 0)) L.same ∙ laid_more i a bs (bytes_of (shown t m₀));
        rest = λ x q.
            ap (λ (n : Mem). n.byte x) e
            ∙ ap (λ z. cond z (get_or bs i 0) (m.byte x)) (ne_eqb x (physical t (a + i)) (λ r.
            let page : x / 4096 ≡ page_of t ((a + i) / 4096) = ap (λ y. y / 4096) r ∙ place_page t (a + i) in
            absurd (both_ways (holds t (x / 4096) && m₀.takes (x / 4096)) q
            (and_from (holds t (x / 4096)) (m₀.takes (x / 4096)) (ap (holds t) page ∙ holds_at t ((a + i) / 4096) (access_here h)) (ap m₀.takes page ∙ takes_here h)))))
            ∙ L.rest x q;
      }

  pub lay_over : i ≡ length bs → m ≡ back t (laid a bs (bytes_of (shown t m₀))) m₀
  lay_over h =
      let bytes : m.byte ≡ back_byte t (laid a bs (bytes_of (shown t m₀))) m₀ =
      lands t (laid a bs (bytes_of (shown t m₀))) m₀ m.byte L.rest
      (λ x l g q. sym (ap (λ (f : ℕ → ℕ). f (l * 4096 + x % 4096)) (sym (L.same ∙ ap (λ n. laid_to n a bs (bytes_of (shown t m₀))) h)) ∙ shown_at t m 15 x l g)) in
      λ j. record { byte = bytes j; takes = L.fixed j }
