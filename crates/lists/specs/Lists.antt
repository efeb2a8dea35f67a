-- Lists as functions of the place, lists joined, and a front written over a list.
use Rattle.std.specs.Prelude.{Bool, true, ◌&&◌, List, [], ◌∷◌, ◌++◌, ℕ, zero, suc, ℤ, pos, length, get_or, drop}

-- f 0, f 1, .., f (n - 1)
unfoldable pub tab : {A : Type 0} → (ℕ → A) → ℕ → List A
tab f zero = []
tab f (suc n) = tab f n ++ (f n ∷ [])

-- the lists f 0, .., f (n - 1), one after the other
unfoldable pub joined : {A : Type 0} → (ℕ → List A) → ℕ → List A
joined f zero = []
joined f (suc n) = joined f n ++ f n

-- the number at place i, or 0 past the end
abbrev pub num : List ℕ → ℕ → ℕ
num x i = get_or x i 0

-- the same, of whole numbers
abbrev pub at : List ℤ → ℕ → ℤ
at x i = get_or x i (pos 0)

-- out with front written at its front, and the rest as it was
unfoldable pub over : {A : Type 0} → List A → List A → List A
over front out = front ++ drop (length front) out

-- the test holds for each element
unfoldable pub every : {A : Type 0} → (A → Bool) → List A → Bool
every p [] = true
every p (x ∷ xs) = p x && every p xs
