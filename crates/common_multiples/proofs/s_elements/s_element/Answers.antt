use Rattle.std.proofs.Common.{sym, subst}
use Rattle.std.proofs.lemmas.Result.{IfOk-weaker}
use Rattle.shuffle_insertions.specs.ShuffleTrees.{IsShuffle}
use Rattle.shuffle_places.specs.Connected.{IsConnected}
use Rattle.shuffle_sums.specs.Settings.{compares, field_of}
use Rattle.shuffle_sums.proofs.Kept.{falls_kept, keeps_both, keeps_itself, trees_kept}
use Rattle.common_multiples.specs.SElements.{IsSElementOf}
use Rattle.common_multiples.proofs.PlacedElements.{fits_place_later, inserted_later, is_s_element, shelved_later}
use Rattle.common_multiples.proofs.s_elements.s_element.Goals as goal

pub insert_at-requires-clause-sum : goal.insert_at-requires-clause-sum
insert_at-requires-clause-sum g c =
    let compare = compares g.O.TreeOrder.weights g.O.TreeOrder.by_keys c.args.setting.now in
    falls_kept c.args.shelf.now c.shelve.new.self c.shelve.ensures.keeps c.store.ensures.shelf compare (field_of c.args.setting.now) c.args.a.now c.requires.first

pub insert_at-requires-clause-fit : goal.insert_at-requires-clause-fit
insert_at-requires-clause-fit g c =
    let compare = compares g.O.TreeOrder.weights g.O.TreeOrder.by_keys c.args.setting.now in
    fits_place_later compare (field_of c.args.setting.now) c.args.shelf.now c.shelve.new.self c.args.multiple.now.tree c.args.multiple.now.first c.args.a.now c.in_ok-host.host
    c.store.ensures.shelf c.shelve.ensures.keeps c.in_ok-host.ensures.found.1 c.requires.first c.requires.first_lead

pub returns-in_err-first-clause-keeps : goal.returns-in_err-first-clause-keeps
returns-in_err-first-clause-keeps g c = keeps_both c.args.shelf.now c.shelve.new.self c.insert_at.new.shelf c.shelve.ensures.keeps c.insert_at.ensures.keeps

pub insert_at-requires-2-clause-place : goal.insert_at-requires-2-clause-place
insert_at-requires-2-clause-place g c =
    let found = c.in_ok-host.ensures.found in
    let host_is = shelved_later c.shelve.new.self c.insert_at.new.shelf c.in_ok-host.host c.args.multiple.now.tree c.shelve.ensures.shelf c.insert_at.ensures.keeps found in
    subst (λ t. IsConnected t c.args.multiple.now.second) (sym host_is) c.requires.second_lead.at.connected

pub insert_at-requires-2-clause-sum : goal.insert_at-requires-2-clause-sum
insert_at-requires-2-clause-sum g c =
    let compare = compares g.O.TreeOrder.weights g.O.TreeOrder.by_keys c.args.setting.now in
    let keeps = keeps_both c.args.shelf.now c.shelve.new.self c.insert_at.new.shelf c.shelve.ensures.keeps c.insert_at.ensures.keeps in
    falls_kept c.args.shelf.now c.insert_at.new.shelf keeps c.store.ensures.shelf compare (field_of c.args.setting.now) c.args.b.now c.requires.second

pub insert_at-requires-2-clause-fit : goal.insert_at-requires-2-clause-fit
insert_at-requires-2-clause-fit g c =
    let compare = compares g.O.TreeOrder.weights g.O.TreeOrder.by_keys c.args.setting.now in
    let found = c.in_ok-host.ensures.found in
    let host_is = shelved_later c.shelve.new.self c.insert_at.new.shelf c.in_ok-host.host c.args.multiple.now.tree c.shelve.ensures.shelf c.insert_at.ensures.keeps found in
    let keeps = keeps_both c.args.shelf.now c.shelve.new.self c.insert_at.new.shelf c.shelve.ensures.keeps c.insert_at.ensures.keeps in
    fits_place_later compare (field_of c.args.setting.now) c.args.shelf.now c.insert_at.new.shelf c.args.multiple.now.tree c.args.multiple.now.second c.args.b.now c.in_ok-host.host
    c.store.ensures.shelf keeps host_is c.requires.second c.requires.second_lead

pub returns-in_err-second-clause-keeps : goal.returns-in_err-second-clause-keeps
returns-in_err-second-clause-keeps g c =
    let keeps = keeps_both c.args.shelf.now c.shelve.new.self c.insert_at.new.shelf c.shelve.ensures.keeps c.insert_at.ensures.keeps in
    keeps_both c.args.shelf.now c.insert_at.new.shelf c.insert_at-2.new.shelf keeps c.insert_at-2.ensures.keeps

pub difference-requires-clause-one : goal.difference-requires-clause-one
difference-requires-clause-one g c =
    let compare = compares g.O.TreeOrder.weights g.O.TreeOrder.by_keys c.args.setting.now in
    falls_kept c.insert_at.new.shelf c.insert_at-2.new.shelf c.insert_at-2.ensures.keeps c.insert_at.ensures.shelf compare (field_of c.args.setting.now) c.in_ok-first.first c.in_ok-first.ensures.falls

pub difference-requires-clause-arity : goal.difference-requires-clause-arity
difference-requires-clause-arity g c =
    let n = c.requires.tree.0 in
    let found = c.in_ok-host.ensures.found in
    let host_is = shelved_later c.shelve.new.self c.insert_at.new.shelf c.in_ok-host.host c.args.multiple.now.tree c.shelve.ensures.shelf c.insert_at.ensures.keeps found in
    let first = c.in_ok-first.ensures.trees n (subst (IsShuffle n) (sym found.1) c.requires.tree.2.shuffle) in (
      n,
      trees_kept c.insert_at.new.shelf c.insert_at-2.new.shelf c.insert_at-2.ensures.keeps c.insert_at.ensures.shelf n c.in_ok-first.first c.in_ok-first.ensures.falls.stands first,
      c.in_ok-second.ensures.trees n (subst (IsShuffle n) (sym host_is) c.requires.tree.2.shuffle),
    )

pub returns-clause-element : goal.returns-clause-element
returns-clause-element g c =
    let p = field_of c.args.setting.now in
    let multiple = c.args.multiple.now in
    let old = c.args.shelf.now in
    let last = c.insert_at-2.new.shelf in
    let found = c.in_ok-host.ensures.found in
    let host_is = shelved_later c.shelve.new.self c.insert_at.new.shelf c.in_ok-host.host c.args.multiple.now.tree c.shelve.ensures.shelf c.insert_at.ensures.keeps found in
    let keeps = keeps_both old c.shelve.new.self c.insert_at.new.shelf c.shelve.ensures.keeps c.insert_at.ensures.keeps in
    let first_is = inserted_later old c.shelve.new.self c.insert_at.new.shelf last multiple.tree multiple.first c.args.a.now c.in_ok-first.first c.in_ok-host.host
    c.store.ensures.shelf c.shelve.ensures.keeps c.insert_at.ensures.shelf c.insert_at-2.ensures.keeps found.1 c.requires.first.stands c.in_ok-first.ensures.falls.stands c.in_ok-first.ensures.inserted in
    let second_is = inserted_later old c.insert_at.new.shelf last last multiple.tree multiple.second c.args.b.now c.in_ok-second.second c.in_ok-host.host
    c.store.ensures.shelf keeps c.insert_at-2.ensures.shelf (keeps_itself last) host_is c.requires.second.stands c.in_ok-second.ensures.falls.stands c.in_ok-second.ensures.inserted in
    IfOk-weaker c.difference.result _ (IsSElementOf p multiple old c.args.a.now c.args.b.now last)
    (λ made. is_s_element p multiple old last c.args.a.now c.args.b.now c.in_ok-first.first c.in_ok-second.second made first_is second_is) c.difference.ensures.difference

pub returns-clause-trees : goal.returns-clause-trees
returns-clause-trees g c =
    let last = c.insert_at-2.new.shelf in
    let found = c.in_ok-host.ensures.found in
    let host_is = shelved_later c.shelve.new.self c.insert_at.new.shelf c.in_ok-host.host c.args.multiple.now.tree c.shelve.ensures.shelf c.insert_at.ensures.keeps found in
    IfOk-weaker c.difference.result _ _ (λ made trees n valid.
    let first = c.in_ok-first.ensures.trees n (subst (IsShuffle n) (sym found.1) valid) in
    trees n (trees_kept c.insert_at.new.shelf last c.insert_at-2.ensures.keeps c.insert_at.ensures.shelf n c.in_ok-first.first c.in_ok-first.ensures.falls.stands first)
    (c.in_ok-second.ensures.trees n (subst (IsShuffle n) (sym host_is) valid))) c.difference.ensures.trees

pub returns-clause-keeps : goal.returns-clause-keeps
returns-clause-keeps g c =
    let keeps = keeps_both c.args.shelf.now c.shelve.new.self c.insert_at.new.shelf c.shelve.ensures.keeps c.insert_at.ensures.keeps in
    keeps_both c.args.shelf.now c.insert_at.new.shelf c.insert_at-2.new.shelf keeps c.insert_at-2.ensures.keeps
