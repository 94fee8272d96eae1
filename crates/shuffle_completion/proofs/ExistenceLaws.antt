-- The laws of what there is, proved.
use Rattle.shuffle_completion.specs.Existence.{CompleteElementsExist, MinimalTreesExist, NormalFormsExist, NormalTreesAreABasis, NormalTreesExist}
use Rattle.shuffle_completion.proofs.Existence.{complete_through, some_form, normal_trees, independent, spanning}
use Rattle.shuffle_completion.proofs.Minimal.{minimal_trees}

pub elements_exist : CompleteElementsExist
elements_exist = complete_through

pub forms_exist : NormalFormsExist
forms_exist = some_form

pub trees_exist : NormalTreesExist
trees_exist = normal_trees

pub trees_are_a_basis : NormalTreesAreABasis
trees_are_a_basis p good compare order n l are = (independent p good compare order n l are, spanning p good compare order n l are)

pub minimal_exist : MinimalTreesExist
minimal_exist = minimal_trees
