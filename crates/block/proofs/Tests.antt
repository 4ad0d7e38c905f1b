-- Cases of a boolean test, and conjunctions of several tests taken apart. For the laws of the block machine.
use Prim.Native.Nat.{ℕ, suc, ◌≤◌}
use native.Mathlib.Omega.{arith}
use mathlib.Core.Bool.{Bool, true, false, ◌&&◌, ◌||◌, beq, true≢false, false≢true}
use mathlib.Core.List.{List, [], ◌∷◌}
use mathlib.Core.Path.{◌≡◌, refl, sym, subst}
use lib.Dec.{eqb, leb}
use borrow.Author.Tests.{eqb-true, eqb-false, leb-true}
use Rattle.membership.proofs.Logic.{by_test, and_left, and_right}

-- std's false≢true and true≢false give ⊥: each use would be longer by an absurd
pub none : {A : Type 0} → false ≡ true → A
none h = absurd (false≢true h)

pub never : {A : Type 0} → true ≡ false → A
never h = absurd (true≢false h)

pub beq_true : (a b : Bool) → beq a b ≡ true → a ≡ b
beq_true true true h = refl
beq_true true false h = sym h
beq_true false true h = h
beq_true false false h = refl

pub or_cases : {A : Type 0} (a b : Bool) → (a || b) ≡ true → (a ≡ true → A) → (b ≡ true → A) → A
or_cases true b h f g = f refl
or_cases false b h f g = g h

-- a conjunction as it is written, to the left, and its parts as facts
abbrev pub ands : Bool → List Bool → Bool
ands b [] = b
ands b (c ∷ cs) = ands (b && c) cs

abbrev pub Each : Bool → List Bool → Type 0
Each b [] = b ≡ true
Each b (c ∷ cs) = (b ≡ true) × Each c cs

each_first : (b c : Bool) (cs : List Bool) → Each (b && c) cs → (b ≡ true) × Each c cs
each_first b c [] h = (and_left b c h, and_right b c h)
each_first b c (d ∷ ds) h = (and_left b c h.0, (and_right b c h.0, h.1))

pub each : (b : Bool) (bs : List Bool) → ands b bs ≡ true → Each b bs
each b [] h = h
each b (c ∷ cs) h = each_first b c cs (each (b && c) cs h)

-- what holds of each number up to 6
pub to_six : (Q : ℕ → Type 0) (n : ℕ) → leb n 6 ≡ true → Q 0 → Q 1 → Q 2 → Q 3 → Q 4 → Q 5 → Q 6 → Q n
to_six Q n l q0 q1 q2 q3 q4 q5 q6 =
    try 0 (omega arith) q0
    (λ l0. try 1 l0 q1
    (λ l1. try 2 l1 q2
    (λ l2. try 3 l2 q3
    (λ l3. try 4 l3 q4
    (λ l4. try 5 l4 q5
    (λ l5. try 6 l5 q6 (λ l6. absurd (above l6))))))))
  where
    above : 7 ≤ n → ⊥
    above h = omega (arith, leb-true n 6 l)

    try : (m : ℕ) → m ≤ n → Q m → (suc m ≤ n → Q n) → Q n
    try m h q f = by_test (eqb n m) (λ e. subst Q (sym (eqb-true n m e)) q) (λ e. f (let d : n ≡ m → ⊥ = eqb-false n m e in omega arith))
