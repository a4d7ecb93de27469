use Rattle.std.proofs.Common.{◌≡◌, ℕ, suc, ◌+◌, ◌<◌, List, [], ◌∷◌, length, get_or, fold, sym, refl, ap, ◌∙◌, add-one, arith, rules}
use Rattle.std.proofs.iter.runs.Sources.{inclusive_listed}
use Rattle.std.specs.Range.{range_inclusive_start, range_inclusive_end, range_inclusive_exhausted}
use borrow.Author.Tests.{tests}
use Rattle.console.specs.Questions.{hash_step, hash_of}
use Rattle.console.proofs.questions.hash.Goals as goal

none : (f : ℕ → ℕ) → 14695981039346656037 ≡ hash_of f 0
unfolding hash_of
none f = refl

one_more : (f : ℕ → ℕ) (n : ℕ) → hash_step (hash_of f n) (f n) ≡ hash_of f (n + 1)
unfolding hash_of
one_more f n = sym (ap (hash_of f) (add-one n))

-- The bytes at addresses that count up from `a` lengthen the hash of those below.
folded : (f : ℕ → ℕ) (xs : List ℕ) (a : ℕ) → ((k : ℕ) → k < length xs → get_or xs k 0 ≡ a + k) → fold (λ h at. hash_step h (f at)) (hash_of f a) xs ≡ hash_of f (a + length xs)
folded f [] a e = ap (hash_of f) (omega arith)
folded f (x ∷ xs) a e =
    let here : x ≡ a = omega (arith, e 0 (omega arith)) in
    ap (λ z. fold (λ h at. hash_step h (f at)) z xs) (ap (λ i. hash_step (hash_of f a) (f i)) here ∙ one_more f a)
    ∙ folded f xs (a + 1) (λ k h. omega (arith, e (suc k) (omega arith)))
    ∙ ap (hash_of f) (omega arith)

pub returns : goal.returns
returns g c =
    let f = (g.M.Memory.mem c.args.memory.now).byte in
    let run = c.fold.ensures.runs in
    let p = run.0 in
    let counts = inclusive_listed p p.seen in
    let up = (counts.4 (ap range_inclusive_exhausted run.1 ∙ c.new.ensures.exhausted)).0 in
    let first : counts.0 ≡ 0 = counts.2 ∙ ap range_inclusive_start run.1 ∙ c.new.ensures.start in
    let last : counts.1 ≡ 65536 = counts.3 ∙ ap (λ r. range_inclusive_end r + 1) run.1 ∙ ap (λ n. n + 1) c.new.ensures.end in
    let long : 0 + length p.items ≡ 65536 = omega (arith, p.long, up.1 run.2, first, last) in
    let each : (k : ℕ) → k < length p.items → get_or p.items k 0 ≡ 0 + k = λ k h.
    (let l : k < p.len = omega (arith, p.long) in let same : get_or p.items k 0 ≡ counts.0 + k = cc (p.reads k 0 l, up.3 k l) in same ∙ ap (λ n. n + k) first) in
    run.3 (λ h at. hash_step h (f at)) (λ x y r q k. search (rules, tests))
    ∙ ap (λ z. fold (λ h at. hash_step h (f at)) z p.items) (none f)
    ∙ folded f p.items 0 each
    ∙ ap (hash_of f) long
