-- Loops over a table, a turn at a time, and pages that are put to 0.
use Rattle.std.proofs.Common.{◌≡◌, ℕ, ◌+◌, ◌*◌, ◌/◌, ◌%◌, ◌<◌, Bool, true, false, cond, ◌&&◌, ◌||◌, eqb, sym, refl, ap, ◌∙◌, ap₂, add-one, arith}
use mathlib.Core.Path.{fun_ext}
use Rattle.memory.specs.Memories.{Mem, put}
use Rattle.table.specs.Tables.{entry_of, access_in, page_in}
use Rattle.pages.specs.Held.{Table, page_of, Where, nowhere, sector, finds, is_there, named, pick, back_byte, zeroed, zeroed_page}

-- A memory with other bytes.
abbrev pub with_bytes : Mem → (ℕ → ℕ) → Mem
with_bytes m b = record { byte = b; takes = m.takes }

pub named_none : (t : Table) (p : ℕ) → named 0 t p ≡ false
unfolding named finds
named_none t p = refl

there : (z : Bool) (i : ℕ) (f : Where) → is_there (cond z (sector i) f) ≡ (z || is_there f)
there true i f = refl
there false i f = refl

pub named_more : (n : ℕ) (t : Table) (p : ℕ) → named (n + 1) t p ≡ ((access_in (entry_of t n) && eqb (page_of t n) p) || named n t p)
unfolding named finds
named_more n t p = rw add-one (there (access_in (entry_of t n) && eqb (page_of t n) p) n (finds t n p))

pub page_none : (p : ℕ) (m : ℕ → ℕ) → zeroed_page p 0 m ≡ m
unfolding zeroed_page
page_none p m = fun_ext (λ x. grind arith)

pub page_more : (p n : ℕ) (m : ℕ → ℕ) → n < 4096 → put (zeroed_page p n m) (p * 4096 + n) 0 ≡ zeroed_page p (n + 1) m
unfolding zeroed_page
page_more p n m h = fun_ext (λ x. grind arith)

pub zeroed_none : (t : Table) (m : Mem) → zeroed 0 t m ≡ m.byte
unfolding zeroed
zeroed_none t m = fun_ext (λ x. let e = named_none t (x / 4096) in grind arith)

-- One sector more: its page is put to 0 if there is access and it takes writes, or stays.
pub zeroed_more : (n : ℕ) (t : Table) (m : Mem) → access_in (entry_of t n) ≡ true → m.takes (page_of t n) ≡ true
    → zeroed_page (page_of t n) 4096 (zeroed n t m) ≡ zeroed (n + 1) t m
unfolding zeroed zeroed_page
zeroed_more n t m a h = fun_ext (λ x. let e = named_more n t (x / 4096) in grind arith)

pub zeroed_same : (n : ℕ) (t : Table) (m : Mem) → (access_in (entry_of t n) && m.takes (page_of t n)) ≡ false → zeroed n t m ≡ zeroed (n + 1) t m
unfolding zeroed
zeroed_same n t m a = fun_ext (λ x. let e = named_more n t (x / 4096) in grind arith)

-- All of them put to 0 is a space of 0 written back.
pub zeroed_back : (t : Table) (m : Mem) → zeroed 15 t m ≡ back_byte t (λ a. 0) m
unfolding zeroed back_byte named
zeroed_back t m = fun_ext (λ x. go x (m.takes (x / 4096)) (finds t 15 (x / 4096)))
  where
    go : (x : ℕ) (z : Bool) (f : Where) → cond (z && is_there f) 0 (m.byte x) ≡ cond z (pick f (λ a. 0) (x % 4096) (m.byte x)) (m.byte x)
    go x false f = refl
    go x true nowhere = refl
    go x true (sector i) = refl

-- A turn that clears a page, and one that leaves it.
module _ (n e p : ℕ) (t : Table) (m m₁ : Mem) (is : e ≡ entry_of t n) (page : p ≡ page_in e) (inv : m₁ ≡ with_bytes m (zeroed n t m)) where
  pub turn_clears : (m₂ : Mem) → access_in e ≡ true → m₁.takes p ≡ true → m₂ ≡ with_bytes m₁ (zeroed_page p 4096 m₁.byte) → m₂ ≡ with_bytes m (zeroed (n + 1) t m)
  turn_clears m₂ acc tk h =
      let same : p ≡ page_of t n = page ∙ ap page_in is in
      h ∙ ap (λ (x : Mem). with_bytes x (zeroed_page p 4096 x.byte)) inv
      ∙ ap (λ q. with_bytes m (zeroed_page q 4096 (zeroed n t m))) same
      ∙ ap (with_bytes m) (zeroed_more n t m (ap access_in (sym is) ∙ acc) (ap m.takes (sym same) ∙ sym (ap (λ (x : Mem). x.takes p) inv) ∙ tk))

  pub turn_leaves : (access_in e && m₁.takes p) ≡ false → m₁ ≡ with_bytes m (zeroed (n + 1) t m)
  turn_leaves stays =
      let same : p ≡ page_of t n = page ∙ ap page_in is in
      inv ∙ ap (with_bytes m) (zeroed_same n t m
      (ap₂ (λ a b. a && b) (ap access_in (sym is)) (ap m.takes (sym same) ∙ sym (ap (λ (x : Mem). x.takes p) inv)) ∙ stays))
