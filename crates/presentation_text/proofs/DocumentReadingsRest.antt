-- Where the rest of a text stands.
use Rattle.std.proofs.Common.{◌≡◌, ◌<◌, ◌+◌, ◌-◌, ℕ, zero, suc, Option, Some, List, [], ◌∷◌, ◌++◌, length, drop, append_assoc, length-append, arith, sym, ap, ◌∙◌, refl, subst}
use Rattle.presentation_text.specs.DocumentDrafts.{IsRestFrom, tail_number, tail_of}
use Rattle.presentation_text.specs.Lines.{EndsWith, lines}
use Rattle.presentation_text.specs.Presentations.{IsTailOfText, IsTailAt}
use Rattle.presentation_text.specs.declared.document.Tail.{Tail}
use Rattle.presentation_text.proofs.TextEnds.{drop-end, ends_itself, ends_within}

pub rest_itself : (text : List ℕ) (first : ℕ) → IsRestFrom text first first text
rest_itself text first = record { before = []; lines_are = refl; number_is = omega arith; end = ends_itself text; few = omega arith }

pub rest_behind : (text rest behind : List ℕ) (first number : ℕ) (line : List ℕ) → IsRestFrom text first number rest → lines rest ≡ line ∷ lines behind → EndsWith rest behind
    → length behind < length rest → IsRestFrom text first (number + 1) behind
rest_behind text rest behind first number line stands e end shorter = record {
  before = stands.before ++ line ∷ [];
  lines_are = stands.lines_are ∙ ap (λ ls. stands.before ++ ls) e ∙ sym (append_assoc stands.before (line ∷ []) (lines behind));
  number_is = omega (arith, stands.number_is, length-append stands.before (line ∷ []));
  end = ends_within text rest behind stands.end end;
  few = omega (arith, stands.few, shorter);
}

pub rest_joined : (text rest end : List ℕ) (first number last : ℕ) → IsRestFrom text first number rest → IsRestFrom rest number last end → IsRestFrom text first last end
rest_joined text rest end first number last one other = record {
  before = one.before ++ other.before;
  lines_are = one.lines_are ∙ ap (λ ls. one.before ++ ls) other.lines_are ∙ sym (append_assoc one.before other.before (lines end));
  number_is = omega (arith, one.number_is, other.number_is, length-append one.before other.before);
  end = ends_within text rest end one.end other.end;
  few = omega (arith, one.few, other.few);
}

-- the tail begins where the rest does
pub tail_stands : (text rest : List ℕ) (number : ℕ) (tail : Tail) → IsRestFrom text 1 number rest → tail.line ≡ number → tail.from ≡ length text - length rest → IsTailAt text number tail
tail_stands text rest number tail stands line from =
    let behind : drop tail.from text ≡ rest = ap (λ n. drop n text) from ∙ drop-end text rest stands.end in
    record {
      line_is = line;
      within = omega arith;
      before = stands.before;
      lines_are = stands.lines_are ∙ ap (λ bytes. stands.before ++ lines bytes) (sym behind);
      number_is = omega (arith, stands.number_is);
    }

pub is_tail : (text rest : List ℕ) (left number : ℕ) (tail : Option Tail) → IsRestFrom text 1 number rest → left ≡ length rest → tail ≡ tail_of (length text) left number
    → IsTailOfText text (tail_number left number) tail
is_tail text rest zero number tail stands l e = e
is_tail text rest (suc left) number tail stands l e =
    subst (IsTailOfText text (Some number)) (sym e)
    (tail_stands text rest number (record { line = number; from = length text - suc left }) stands refl (ap (λ n. length text - n) l))
