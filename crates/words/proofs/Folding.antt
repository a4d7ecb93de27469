-- `try_fold` over the bytes of a word, where each turn puts one digit more at the end of a number.
use Rattle.std.proofs.Common.{◌≡◌, ℕ, ◌≤◌, Bool, IfSome, ◌&&◌, nat_le, List, [], ◌∷◌, Some, None, Option, true, false, cond, MatchOption, true≢false, is_some, sym, refl, ap, ◌∙◌, subst}
use Rattle.std.proofs.lemmas.Bool.{leb-true}
use denote.Param.Members.{Mut}
use Rattle.std.specs.Fn.{Called}
use Rattle.std.specs.Iterator.{Yields, AlwaysYields}
use Rattle.std.specs.List.{FoldsTo}
use Rattle.words.specs.Kinds.{digit_byte}
use Rattle.words.specs.Numbers.{longer, lengthened, spelled}

on : (m a b : ℕ) (bs : List ℕ) (n : ℕ) → Some n ≡ lengthened m a b → spelled m n bs ≡ spelled m a (b ∷ bs)
unfolding spelled
on m a b bs n e = at (digit_byte b && nat_le (longer a b) m) e
  where
    at : (z : _) → Some n ≡ cond z (Some (longer a b)) None → spelled m n bs ≡ cond z (spelled m (longer a b) bs) None
    at true e = let p : n ≡ longer a b = cc in ap (λ k. spelled m k bs) p
    at false e = absurd (let z : true ≡ false = ap is_some e in true≢false z)

off : (m a b : ℕ) (bs : List ℕ) → None ≡ lengthened m a b → None ≡ spelled m a (b ∷ bs)
unfolding spelled
off m a b bs e = at (digit_byte b && nat_le (longer a b) m) e
  where
    at : (z : _) → ◌≡◌ {A = Option ℕ} None (cond z (Some (longer a b)) None) → ◌≡◌ {A = Option ℕ} None (cond z (spelled m (longer a b) bs) None)
    at true e = absurd (true≢false (sym (ap is_some e)))
    at false e = refl

end : (m a : ℕ) → Some a ≡ spelled m a []
unfolding spelled
end m a = refl

-- What is spelled is at most `most`.
pub spelled_within : (m a : ℕ) (bs : List ℕ) → a ≤ m → IfSome (spelled m a bs) (λ n. n ≤ m)
unfolding spelled
spelled_within m a [] h = h
spelled_within m a (b ∷ bs) h = at (digit_byte b) (nat_le (longer a b) m) (λ e. spelled_within m (longer a b) bs (leb-true _ _ e))
  where
    at : (y z : Bool) → (z ≡ true → IfSome (spelled m (longer a b) bs) (λ n. n ≤ m)) → IfSome (cond (y && z) (spelled m (longer a b) bs) None) (λ n. n ≤ m)
    at true true e = e refl
    at true false e = tt
    at false z e = tt

module _ {S A F : Type 0} (E : Type 0) (steps : S → Option A → S → Type 0) (v : A → ℕ) (g : Mut F (ℕ × (A × Unit {0})) (Option ℕ)) (f : F) (m : ℕ)
    (k : (a : ℕ) (x : A) (r : Option ℕ) (q : F) → Called g f (a, (x, tt)) r q → (q ≡ f) × (r ≡ lengthened m a (v x))) where
  abbrev Turn : F × ℕ → A → F × ℕ → Type 0
  Turn p x q = (r : Option ℕ) × Called g p.0 (p.1, (x, tt)) r q.0 × (r ≡ Some q.1)

  -- What follows the calls that went on: none, or one at which no digit was added.
  abbrev Stops : F → ℕ → Option ℕ → Option A → Type 0
  Stops q b r o = MatchOption o (r ≡ Some b) (λ x. (w : Option ℕ) × (h : F) × E × Called g q (b, (x, tt)) w h × (w ≡ None) × (r ≡ None))

  pub spelled_by_turns : (xs : List A) (all : List ℕ) (s t u : S) (p : F) (a : ℕ) (q : F) (b : ℕ) (r : Option ℕ) (o : Option A) → p ≡ f
      → AlwaysYields steps v s all → Yields steps s xs t → FoldsTo Turn (p, a) xs (q, b) → steps t o u → Stops q b r o → r ≡ spelled m a all
  spelled_by_turns [] [] s t u p a q b r None z e y c d h = h ∙ ap Some (sym (ap (λ w. w.1) c)) ∙ end m a
  spelled_by_turns [] [] s t u p a q b r (Some x) z e y c d h = absurd (e x u (subst (λ k. steps k (Some x) u) (sym y) d))
  spelled_by_turns [] (n ∷ all) s t u p a q b r None z e y c d h = absurd (e.0 u (subst (λ k. steps k None u) (sym y) d))
  spelled_by_turns [] (n ∷ all) s t u p a q b r (Some x) z e y c d h =
      let came : v x ≡ n = (e.1 x u (subst (λ k. steps k (Some x) u) (sym y) d)).0 in
      let called : Called g f (a, (x, tt)) h.0 h.1 = subst (λ w. Called g w.0 (w.1, (x, tt)) h.0 h.1) (sym c ∙ ap (λ w. (w, a)) z) h.3 in
      h.5 ∙ off m a n all (sym h.4 ∙ (k a x h.0 h.1 called).1 ∙ ap (lengthened m a) came)
  spelled_by_turns (x ∷ xs) [] s t u p a q b r o z e y c d h = absurd (e x y.0 y.1)
  spelled_by_turns (x ∷ xs) (n ∷ all) s t u p a q b r o z e y c d h =
      let came : (v x ≡ n) × AlwaysYields steps v y.0 all = e.1 x y.0 y.1 in
      let called : Called g f (a, (x, tt)) c.1.0 c.0.0 = subst (λ w. Called g w (a, (x, tt)) c.1.0 c.0.0) z c.1.1 in
      let told : (c.0.0 ≡ f) × (c.1.0 ≡ lengthened m a (v x)) = k a x c.1.0 c.0.0 called in
      spelled_by_turns xs all y.0 t u c.0.0 c.0.1 q b r o told.0 came.1 y.2 c.2 d h ∙ on m a n all c.0.1 (sym c.1.2 ∙ told.1 ∙ ap (lengthened m a) came.0)
