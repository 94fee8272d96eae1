use Rattle.std.proofs.Common.{◌≡◌, ◌-◌, [], ◌∷◌, map, get_or, inl, ap, sym, subst, refl, ◌∙◌, arith, append_assoc}
use mathlib.Core.List.{◌++◌}
use mathlib.Core.Path.{ap₂}
use Rattle.std.specs.List.{flat_map}
use Rattle.modular_sums.specs.Lists.{Mem}
use Rattle.tree_store.specs.Stores.{tree_at}
use Rattle.shuffle_normal_forms.proofs.Filters.{nothing_behind}
use Rattle.normal_listing.specs.declared.parts.Part.{Part}
use Rattle.normal_listing.specs.Choices.{choices, entry}
use Rattle.normal_listing.specs.Vertices.{passes, spelling, vertex, IsVertex}
use Rattle.normal_listing.specs.Walks.{AreWordsOf, Offers}
use Rattle.normal_listing.proofs.Chosen.{from_part, choices_none, choices_more, mem_entry, mem_joined, mem_map, words_more, next_found, all_found, one_more}
use Rattle.normal_listing.proofs.WordParts.{entry_any}
use Rattle.normal_listing.proofs.choosing.+choosing.Goals as goal

pub choose-offer-requires-clause-vertex : goal.choose-offer-requires-clause-vertex
choose-offer-requires-clause-vertex t c =
    subst (IsVertex c.args.root.now.store.now c.args.root.now.labels.now c.args.root.now.label) (nothing_behind c.args.chosen.now.ids)
    (c.requires.vertices [] (subst (Mem []) (sym (choices_none c.args.tables.now.ids.now c.args.tables.now.parted.now c.args.count c.args.set c.if-count-eq0.true)) (inl refl)))

pub choose-choose_own-requires-in-loop-part : goal.choose-choose_own-requires-in-loop-part
choose-choose_own-requires-in-loop-part t c =
    let tables = c.args.tables.now in
    let root = c.args.root.now in
    let items = c.as_slice-part-items.result.now in
    let none : Part = record { own = 0; others = 0 } in
    let p = get_or items c.loop-part.part-index none in
    let is : items ≡ entry tables.parted.now c.args.set = c.as_slice-part-items.ensures ∙ entry_any tables.parted.now c.args.set c.index-tables-set.result [] c.requires.set in
    let member : Mem p (entry tables.parted.now c.args.set) = subst (Mem p) is (mem_entry items c.loop-part.part-index p c.loop-part-test.true (entry_any items c.loop-part.part-index none p c.loop-part-test.true)) in
    let low = c.requires.tables.parts c.args.set p member in
    let same = c.loop-part.invariant.same in
    let words : AreWordsOf root.store.now root.labels.now c.loop-part.chosen.ids c.loop-part.chosen.words = subst (λ x. AreWordsOf root.store.now root.labels.now x.ids x.words) (sym same) c.requires.words in
    let room = c.loop-part.invariant.room in
    let wide = c.requires.room in (
      omega arith,
      (
        c.requires.tables,
        (
          c.requires.root,
          (
            low.0,
            (
              low.1,
              (
                words,
                (
                  λ l m.
                      subst (λ x. IsVertex root.store.now root.labels.now root.label (x.ids ++ l)) (sym same)
                      (c.requires.vertices l (subst (Mem l) (sym (choices_more tables.ids.now tables.parted.now c.args.count c.args.set (omega arith))) (mem_joined (from_part tables.ids.now tables.parted.now (c.args.count - 1)) (entry tables.parted.now c.args.set) p l member m))),
                  omega (arith, room, wide),
                ),
              ),
            ),
          ),
        ),
      ),
    )

pub choose-loop-part-preserved : goal.choose-loop-part-preserved
choose-loop-part-preserved t c =
    let tables = c.args.tables.now in
    let root = c.args.root.now in
    let items = c.as_slice-part-items.result.now in
    let none : Part = record { own = 0; others = 0 } in
    let p = get_or items c.loop-part.part-index none in
    let same = c.loop-part.invariant.same in
    record {
      added = next_found (passes root.store.now root.leads.now root.label) (λ ids. spelling root.labels.now (vertex root.store.now root.label ids)) (λ l. c.args.chosen.now.ids ++ l)
          (from_part tables.ids.now tables.parted.now (c.args.count - 1)) items c.loop-part.part-index p c.args.found.now c.loop-part.found c.choose_own-in-loop-part.new.found
          c.loop-part-test.true (entry_any items c.loop-part.part-index none p c.loop-part-test.true) c.loop-part.invariant.added
          (subst (λ x. Offers root (map (λ l. x.ids ++ l) (from_part tables.ids.now tables.parted.now (c.args.count - 1) p)) c.loop-part.found c.choose_own-in-loop-part.new.found) same c.in_ok-choose_own.ensures.added);
      same = c.in_ok-choose_own.ensures.same ∙ same;
      room = c.choose_own-in-loop-part.ensures.room ∙ c.loop-part.invariant.room;
    }

pub choose-returns-clause-added : goal.choose-returns-clause-added
choose-returns-clause-added t c =
    let tables = c.args.tables.now in
    let root = c.args.root.now in
    let items = c.as_slice-part-items.result.now in
    let is : items ≡ entry tables.parted.now c.args.set = c.as_slice-part-items.ensures ∙ entry_any tables.parted.now c.args.set c.index-tables-set.result [] c.requires.set in
    all_found (passes root.store.now root.leads.now root.label) (λ ids. spelling root.labels.now (vertex root.store.now root.label ids)) (λ l. c.args.chosen.now.ids ++ l)
    (from_part tables.ids.now tables.parted.now (c.args.count - 1)) items c.loop-part.part-index (choices tables.ids.now tables.parted.now c.args.count c.args.set) c.args.found.now c.loop-part.found
    c.loop-part-test.false (choices_more tables.ids.now tables.parted.now c.args.count c.args.set (omega arith) ∙ ap (λ l. flat_map (from_part tables.ids.now tables.parted.now (c.args.count - 1)) l) (sym is)) c.loop-part.invariant.added

pub choose_own-choose-requires : goal.choose_own-choose-requires
choose_own-choose-requires t c =
    let tables = c.args.tables.now in
    let root = c.args.root.now in
    let before = c.args.chosen.now in
    let ids = c.as_slice-ids.result.now in
    let id = c.index-ids-at.result in
    let rs = choices tables.ids.now tables.parted.now c.args.count c.args.part.others in
    let ids_are : ids ≡ entry tables.ids.now c.args.part.own = c.as_slice-ids.ensures ∙ entry_any tables.ids.now c.args.part.own c.index-tables-part.result [] c.requires.own in
    let tables_same = c.requires.tables.same in
    let tables_more = c.requires.tables.more in
    let low = c.requires.own in
    let others = c.requires.others in
    let words_are : c.as_slice-words.result.now ≡ entry tables.words.now c.args.part.own
    = c.as_slice-words.ensures ∙ entry_any tables.words.now c.args.part.own c.index-tables-part-2.result [] (omega (arith, tables_same, low)) in
    let spelled : c.as_slice-words.result.now ≡ map (λ x. spelling root.labels.now (tree_at root.store.now x)) ids
    = words_are ∙ c.requires.tables.words c.args.part.own ∙ ap (map (λ x. spelling root.labels.now (tree_at root.store.now x))) (sym ids_are) in
    let same = c.loop-at.invariant.same in
    let added : c.add_last.new.chosen.ids ≡ before.ids ++ (id ∷ []) = c.in_ok-add_last.ensures.ids ∙ ap (λ x. x.ids ++ (id ∷ [])) same in
    let words : AreWordsOf root.store.now root.labels.now c.add_last.new.chosen.ids c.add_last.new.chosen.words
    = words_more (λ x. spelling root.labels.now (tree_at root.store.now x)) ids c.as_slice-words.result.now c.loop-at.at id c.index-words-at.result spelled c.loop-at-test.true c.index-ids-at.is c.index-words-at.is
    before.ids before.words c.add_last.new.chosen.ids c.add_last.new.chosen.words c.requires.words added (c.in_ok-add_last.ensures.words ∙ ap (λ x. x.words ++ (c.index-words-at.result ∷ [])) same) in
    let member : Mem id (entry tables.ids.now c.args.part.own) = subst (Mem id) ids_are (mem_entry ids c.loop-at.at id c.loop-at-test.true c.index-ids-at.is) in
    let room = c.loop-at.invariant.room in
    let wide = c.requires.room in (
      omega arith,
      (
        c.requires.tables,
        (
          c.requires.root,
          (
            omega (arith, tables_more, others),
            (
              (λ _. others),
              (
                words,
                (
                  λ l m.
                      subst (IsVertex root.store.now root.labels.now root.label) (sym (append_assoc before.ids (id ∷ []) l) ∙ ap (λ x. x ++ l) (sym added))
                      (c.requires.vertices (id ∷ l) (mem_joined (λ x. map (λ r. x ∷ r) rs) (entry tables.ids.now c.args.part.own) id (id ∷ l) member (mem_map (λ r. id ∷ r) rs l m))),
                  omega (arith, room, wide),
                ),
              ),
            ),
          ),
        ),
      ),
    )

pub choose_own-loop-at-preserved : goal.choose_own-loop-at-preserved
choose_own-loop-at-preserved t c =
    let tables = c.args.tables.now in
    let root = c.args.root.now in
    let before = c.args.chosen.now in
    let ids = c.as_slice-ids.result.now in
    let id = c.index-ids-at.result in
    let rs = choices tables.ids.now tables.parted.now c.args.count c.args.part.others in
    let same = c.loop-at.invariant.same in
    let added : c.add_last.new.chosen.ids ≡ before.ids ++ (id ∷ []) = c.in_ok-add_last.ensures.ids ∙ ap (λ x. x.ids ++ (id ∷ [])) same in
    let words : c.add_last.new.chosen.words ≡ before.words ++ (c.index-words-at.result ∷ []) = c.in_ok-add_last.ensures.words ∙ ap (λ x. x.words ++ (c.index-words-at.result ∷ [])) same in
    let ids_back : c.drop_last.new.chosen.ids ≡ before.ids = c.drop_last.ensures.ids before.ids id (ap (λ x. x.ids) c.in_ok-choose.ensures.same ∙ added) in
    let words_back : c.drop_last.new.chosen.words ≡ before.words = c.drop_last.ensures.words before.words c.index-words-at.result (ap (λ x. x.words) c.in_ok-choose.ensures.same ∙ words) in
    record {
      added = next_found (passes root.store.now root.leads.now root.label) (λ is. spelling root.labels.now (vertex root.store.now root.label is)) (λ l. before.ids ++ l)
          (λ x. map (λ r. x ∷ r) rs) ids c.loop-at.at id c.args.found.now c.loop-at.found c.choose.new.found
          c.loop-at-test.true c.index-ids-at.is c.loop-at.invariant.added
          (subst (λ l. Offers root l c.loop-at.found c.choose.new.found) (ap (λ x. map (λ l. x ++ l) rs) added ∙ one_more before.ids id rs) c.in_ok-choose.ensures.added);
      same = ap₂ (λ i w. record { ids = i; words = w }) ids_back words_back;
      room = c.choose.ensures.room ∙ c.loop-at.invariant.room;
    }
