-- Words of leaves as relations, and the comparisons by words and rows as strict orders.
use Rattle.std.specs.Prelude.{ℕ, ◌≡◌, ◌<◌, List, [], ◌∷◌, length}
use Rattle.std.proofs.Common.{◌⊎◌}
use Rattle.std.specs.Prelude.{ℕ, List, [], ◌∷◌, ◌<◌}
use Rattle.labelled_trees.specs.Trees.{Tree, Row, leaf, node, none, more}
use Rattle.labelled_trees.specs.Contexts.{Ctx, RowCtx, hole, inside, here, past}

-- w is the word of leaf j: the labels from the root to it
abbrev mutual
  pub HasWord : Tree ℕ → ℕ → List ℕ → Type 0
  HasWord (leaf n) j w = (n ≡ j) × (w ≡ [])
  HasWord (node l r) j w = (v : List ℕ) × (w ≡ l ∷ v) × HasWordRow r j v

  pub HasWordRow : Row ℕ → ℕ → List ℕ → Type 0
  HasWordRow none j w = ⊥
  HasWordRow (more t r) j w = HasWord t j w ⊎ HasWordRow r j w

abbrev mutual
  pub HasWordCtx : Ctx ℕ → ℕ → List ℕ → Type 0
  HasWordCtx hole j w = ⊥
  HasWordCtx (inside l c) j w = (v : List ℕ) × (w ≡ l ∷ v) × HasWordRowCtx c j v

  pub HasWordRowCtx : RowCtx ℕ → ℕ → List ℕ → Type 0
  HasWordRowCtx (here c r) j w = HasWordCtx c j w ⊎ HasWordRow r j w
  HasWordRowCtx (past t c) j w = HasWord t j w ⊎ HasWordRowCtx c j w

-- less at the first difference
abbrev pub LexLess : List ℕ → List ℕ → Type 0
LexLess [] w = ⊥
LexLess (x ∷ v) [] = ⊥
LexLess (x ∷ v) (y ∷ w) = (x < y) ⊎ ((x ≡ y) × LexLess v w)

-- shorter, or as long and less at the first difference
abbrev pub WordLess : List ℕ → List ℕ → Type 0
WordLess v w = (length v < length w) ⊎ ((length v ≡ length w) × LexLess v w)

-- longer, or as long and less at the first difference
abbrev pub ShortLess : List ℕ → List ℕ → Type 0
ShortLess v w = (length w < length v) ⊎ ((length v ≡ length w) × LexLess v w)

abbrev pub SameWord : Tree ℕ → Tree ℕ → ℕ → Type 0
SameWord x y j = (v w : List ℕ) → HasWord x j v → HasWord y j w → v ≡ w

-- at the first leaf whose words differ the word of x is less
pub record LessByWords (Before : List ℕ → List ℕ → Type 0) (x y : Tree ℕ) : Type 0 where
  pub at : ℕ
  pub first_word : List ℕ
  pub second_word : List ℕ
  pub has_first : HasWord x at first_word
  pub has_second : HasWord y at second_word
  pub before : (j : ℕ) → j < at → SameWord x y j
  pub less : Before first_word second_word

-- the labels from the root to the hole
abbrev mutual
  pub hole_word : {A : Type 0} → Ctx A → List ℕ
  hole_word hole = []
  hole_word (inside l c) = l ∷ hole_word_row c

  pub hole_word_row : {A : Type 0} → RowCtx A → List ℕ
  hole_word_row (here c r) = hole_word c
  hole_word_row (past t c) = hole_word_row c
