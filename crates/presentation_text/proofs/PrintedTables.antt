-- The lines of all generators and their weights in a printed document lead to their table.
use Rattle.std.proofs.Common.{◌≡◌, ℕ, zero, suc, ◌^◌, ◌<◌, ◌≤◌, ◌⊎◌, ⊎_elim, true, false, Bool, ◌==◌, List, [], ◌∷◌, ◌++◌, length, map, codes, Option, Some, None, refl, ap, ap₂, sym, ◌∙◌, subst, arith, append-nil, append_assoc, length-append}
use Rattle.std.specs.List.{All, AllPairs}
use Rattle.std.specs.Fmt.{decimal}
use Rattle.std.proofs.lemmas.Bool.Decides.{nat_tests}
use Rattle.std.proofs.lemmas.List.{get_or_append_left, map-append}
use Rattle.std.proofs.Math.Seq.{get_or-append_seam}
use Rattle.symmetric_trees.specs.Generators.{IsTable}
use Rattle.symmetric_trees.specs.declared.generators.Generator.{Generator}
use Rattle.presentation_text.specs.declared.document.OrderName.{OrderName}
use Rattle.presentation_text.specs.declared.lexing.Token.TheVariants.{Word, Number}
use Rattle.presentation_text.specs.DocumentText.{line_of, generator_text, weight_text, generators_text}
use Rattle.presentation_text.specs.Grammar.{numbered_tokens, LineAdds, a_generator, a_weight, MayStand}
use Rattle.presentation_text.specs.LineReadings.{Contents, is_weighed, weighed}
use Rattle.presentation_text.specs.Lines.{lines}
use Rattle.presentation_text.specs.Presentations.{weight_or_none}
use Rattle.presentation_text.specs.TreeReadings.{index_of}
use Rattle.presentation_text.proofs.LineTexts.{no_feed-word, no_feed-decimal}
use Rattle.presentation_text.proofs.TreeReadingsSteps.{first_named}
use Rattle.presentation_text.proofs.PrintedGenerators.{MayPrint, kind_words, generator_tokens, generator-words, generator_line, no_feed-kinds, tokens-name, tokens-number}
use Rattle.presentation_text.proofs.PrintedStages.{Reach, reach-line, stage, IsVersion, stands-gen, stands-weight}

-- ---- weights

-- a weight that may be printed in this version
pub record MayWeigh (version weight : ℕ) : Type 0 where
  pub small : weight ≤ 1000000
  pub two : (version ≡ 2) ⊎ (weight ≡ 0)

not_weighed : (g : ℕ) (ws : List (Option ℕ)) → length ws ≡ g → is_weighed g (ws ++ None ∷ []) ≡ false
not_weighed zero [] e = refl
not_weighed zero (w ∷ ws) e = absurd (omega (arith, e))
not_weighed (suc g) [] e = absurd (omega (arith, e))
not_weighed (suc g) (w ∷ ws) e = not_weighed g ws (omega (arith, e))

weighed-last : (g weight : ℕ) (ws : List (Option ℕ)) → length ws ≡ g → weighed g weight (ws ++ None ∷ []) ≡ ws ++ Some weight ∷ []
weighed-last zero weight [] e = refl
weighed-last zero weight (w ∷ ws) e = absurd (omega (arith, e))
weighed-last (suc g) weight [] e = absurd (omega (arith, e))
weighed-last (suc g) weight (w ∷ ws) e = ap (λ xs. w ∷ xs) (weighed-last g weight ws (omega (arith, e)))

abbrev Apart : List Generator → Type 0
Apart = AllPairs (λ one other. one.name ≡ other.name → ⊥)

apart-front : (front rest : List Generator) → Apart (front ++ rest) → Apart front
apart-front front rest apart i j d l m same =
    let len = length-append front rest in
    apart i j d l (omega (arith, len, m))
    (ap (λ g. g.name) (get_or_append_left front rest d i (omega (arith, l, m))) ∙ same ∙ ap (λ g. g.name) (sym (get_or_append_left front rest d j m)))

last_index : (done rest : List Generator) (generator : Generator) → Apart (done ++ generator ∷ rest) → index_of generator.name (done ++ generator ∷ []) ≡ Some (length done)
last_index done rest generator apart =
    let whole = done ++ generator ∷ [] in
    let len = length-append done (generator ∷ []) in
    let front : Apart whole = apart-front whole rest (subst Apart (sym (append_assoc done (generator ∷ []) rest)) apart) in
    first_named whole generator.name (length done) front (omega (arith, len)) (λ d. ap (λ g. g.name) (get_or-append_seam done generator [] d))

pub regroup : (a b c rest : List ℕ) → (a ++ (b ++ c)) ++ rest ≡ a ++ (b ++ (c ++ rest))
regroup a b c rest = append_assoc a (b ++ c) rest ∙ ap (λ xs. a ++ xs) (append_assoc b c rest)

one_behind : (ws : List (Option ℕ)) (w : Option ℕ) (weight : ℕ) (weights : List ℕ) → weight_or_none w ≡ weight
    → map weight_or_none (ws ++ w ∷ []) ++ weights ≡ map weight_or_none ws ++ weight ∷ weights
one_behind ws w weight weights e =
    ap (λ xs. xs ++ weights) (map-append weight_or_none ws (w ∷ [])) ∙ append_assoc (map weight_or_none ws) (weight_or_none w ∷ []) weights ∙ ap (λ x. map weight_or_none ws ++ x ∷ weights) e

-- ---- generators one after the other

module _ (P : Contents → Type 0) (version p : ℕ) (order : OrderName) (v : IsVersion version) (rest : List ℕ) where
  abbrev now : List Generator → List (Option ℕ) → ℕ → Contents
  now generators ws s = stage version p order generators ws [] [] s

  -- wherever the lines behind the generators' begin, they lead on
  abbrev GoesOn : List Generator → List ℕ → Type 0
  GoesOn generators weights = (m t : ℕ) (ws : List (Option ℕ)) → t ≤ 4 → map weight_or_none ws ≡ weights → Reach P (now generators ws t) (numbered_tokens m (lines rest))

  -- the line of a weight, if there is one
  reach-weight : (n : ℕ) (done gens : List Generator) (generator : Generator) (ws : List (Option ℕ)) (weight : ℕ) (text : List ℕ) → Apart (done ++ generator ∷ gens) → length ws ≡ length done
      → MayPrint version generator → MayWeigh version weight → (b : Bool) → (weight == 0) ≡ b
      → ((m : ℕ) (w : Option ℕ) → weight_or_none w ≡ weight → Reach P (now (done ++ generator ∷ []) (ws ++ w ∷ []) 4) (numbered_tokens m (lines text)))
      → Reach P (now (done ++ generator ∷ []) (ws ++ None ∷ []) 4) (numbered_tokens n (lines (weight_text generator weight ++ text)))
  reach-weight n done gens generator ws weight text apart len may light true e further =
      let none : weight ≡ 0 = grind (arith, nat_tests) in
      let gone : weight_text generator weight ≡ [] = rw e refl in
      subst (λ xs. Reach P (now (done ++ generator ∷ []) (ws ++ None ∷ []) 4) (numbered_tokens n (lines (xs ++ text)))) (sym gone) (further n None (sym none))
  reach-weight n done gens generator ws weight text apart len may light false e further = ⊎_elim
      (λ two.
      let small : weight < 10 ^ 18 = omega (arith, light.small) in
      let index = last_index done gens generator apart in
      let here = now (done ++ generator ∷ []) (ws ++ None ∷ []) 4 in
      let heavy = weighed-last (length done) weight ws len in
      let there : weight_text generator weight ≡ line_of (codes "weight") (generator.name ∷ (decimal weight ∷ [])) = rw e refl in
      subst (λ xs. Reach P here (numbered_tokens n (lines (xs ++ text)))) (sym there)
      (reach-line P here (now (done ++ generator ∷ []) (ws ++ Some weight ∷ []) 4) n (codes "weight") (generator.name ∷ (decimal weight ∷ [])) text
      (Word (codes "weight") ∷ (Word generator.name ∷ (Number weight ∷ []))) (refl, refl) (no_feed-word (codes "weight") (refl, refl))
      (no_feed-word generator.name may.word, (no_feed-decimal weight (omega (arith, light.small)), tt))
      (ap₂ (λ xs ys. Word (codes "weight") ∷ (xs ++ (ys ++ []))) (tokens-name generator.name may.word) (tokens-number weight small))
      (subst (λ u. MayStand (stage u p order (done ++ generator ∷ []) (ws ++ None ∷ []) [] [] 4) (Word (codes "weight") ∷ (Word generator.name ∷ (Number weight ∷ [])))) (sym two)
      (stands-weight p order (done ++ generator ∷ []) (ws ++ None ∷ []) [] [] 4 (omega arith) (Word generator.name ∷ (Number weight ∷ []))))
      (subst (λ us. LineAdds here n (Word (codes "weight") ∷ (Word generator.name ∷ (Number weight ∷ []))) (now (done ++ generator ∷ []) us 4)) heavy
      (a_weight generator.name (length done) weight index (not_weighed (length done) ws len) light.small))
      (further (suc n) (Some weight) refl)))
      (λ none. let never : (weight == 0) ≡ true = rw none refl in let both : false ≡ true = sym e ∙ never in cc)
      light.two

  -- the lines of generators and their weights
  pub reach-generators : (n : ℕ) (done gens : List Generator) (ws : List (Option ℕ)) (weights : List ℕ) (s : ℕ) → s ≤ 4 → IsTable (done ++ gens) → length ws ≡ length done → length weights ≡ length gens
      → All (MayPrint version) gens → All (MayWeigh version) weights → GoesOn (done ++ gens) (map weight_or_none ws ++ weights)
      → Reach P (now done ws s) (numbered_tokens n (lines (generators_text version gens weights ++ rest)))
  reach-generators n done [] ws [] s early table len same may light on =
      subst (λ gs. Reach P (now gs ws s) (numbered_tokens n (lines rest))) (append-nil done) (on n s ws early (sym (append-nil (map weight_or_none ws))))
  reach-generators n done [] ws (weight ∷ weights) s early table len same may light on = absurd (omega (arith, same))
  reach-generators n done (generator ∷ gens) ws [] s early table len same may light on = absurd (omega (arith, same))
  reach-generators n done (generator ∷ gens) ws (weight ∷ weights) s early table len same may light on =
      let own = may 0 generator (omega arith) in
      let contents = now done ws s in
      let ts = generator_tokens version generator in
      let text = generators_text version gens weights ++ rest in
      let moved : done ++ generator ∷ gens ≡ (done ++ generator ∷ []) ++ gens = sym (append_assoc done (generator ∷ []) gens) in
      subst (λ xs. Reach P contents (numbered_tokens n (lines xs))) (sym (regroup (generator_text version generator) (weight_text generator weight) (generators_text version gens weights) rest))
      (reach-line P contents (now (done ++ generator ∷ []) (ws ++ None ∷ []) 4) n (codes "gen") (generator.name ∷ (decimal generator.arity ∷ kind_words version generator.parts)) (weight_text generator weight ++ text)
      (Word (codes "gen") ∷ ts) (refl, refl) (no_feed-word (codes "gen") (refl, refl))
      (no_feed-word generator.name own.word, (no_feed-decimal generator.arity (omega (arith, own.arity.1)), no_feed-kinds version generator own))
      (ap (λ xs. Word (codes "gen") ∷ xs) (generator-words version generator own)) (stands-gen p order done ws [] [] s version v early ts)
      (a_generator ts generator (generator_line contents gens generator table own))
      (reach-weight (suc n) done gens generator ws weight text table.apart len own (light 0 weight (omega arith)) (weight == 0) refl
      (λ m w worth. reach-generators m (done ++ generator ∷ []) gens (ws ++ w ∷ []) weights 4 (omega arith) (subst IsTable moved table)
      (let l = length-append ws (w ∷ []) in let k = length-append done (generator ∷ []) in omega (arith, l, k, len)) (omega (arith, same))
      (λ i d l. may (suc i) d (omega (arith, l))) (λ i d l. light (suc i) d (omega (arith, l)))
      (λ m t us e h. subst (λ gs. Reach P (now gs us t) (numbered_tokens m (lines rest))) moved (on m t us e (h ∙ one_behind ws w weight weights worth))))))
