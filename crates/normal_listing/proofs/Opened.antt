-- The number inside a word, and the word that a number closes to.
use Rattle.std.proofs.Common.{◌≡◌, ℕ, List, refl, ap, sym, ◌∙◌, subst}
use Rattle.normal_listing.specs.Places.{IsShortWord, number_of, word_in}
use Rattle.normal_listing.proofs.Places.{read_word, is_word}

-- the number of a word
pub record IsOpened (bits : ℕ) (l : List ℕ) : Type 0 where
  pub number : bits ≡ number_of l
  pub word : IsShortWord l

pub opened : (bits : ℕ) (l : List ℕ) → word_in bits ≡ l → number_of (word_in bits) ≡ bits → IsOpened bits l
opened bits l e h = record { number = sym h ∙ ap number_of e; word = subst IsShortWord e (is_word bits) }

-- what closes to the word
pub record Closes (bits : ℕ) (l : List ℕ) : Type 0 where
  pub view : word_in bits ≡ l
  pub invariant : number_of (word_in bits) ≡ bits

pub closes : (bits : ℕ) (l : List ℕ) → IsShortWord l → bits ≡ number_of l → Closes bits l
closes bits l h e =
    let view : word_in bits ≡ l = ap word_in e ∙ read_word l h in
    record { view = view; invariant = ap number_of view ∙ sym e }
