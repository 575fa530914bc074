-- No built-in operator is an injection.
use Rattle.std.proofs.Common.{◌≡◌, ◌∙◌, refl, ap₂, List, [], ◌∷◌, ◌++◌, codes}
use Rattle.std.proofs.lemmas.Grind.{flat_map-append}
use Rattle.elan_text.specs.declared.name.Name.{Name}
use Rattle.elan_modules.specs.declared.flat.Flat.{Flat}
use Rattle.elan_modules.specs.declared.flat.Instance.{Instance}
use Rattle.elan_modules.specs.declared.flat.Origin.{Origin}
use Rattle.elan_modules.specs.declared.flat.Origin.TheVariants as origin
use Rattle.elan_modules.specs.declared.flat.Standard.{Standard}
use Rattle.elan_modules.specs.declared.flat.Standard.TheVariants as standard
use Rattle.elan_program.specs.declared.signature.Operator.{Operator}
use Rattle.elan_program.specs.declared.signature.Signature.{Signature}
use Rattle.elan_program.specs.Soundness.{leads}
use Rattle.elan_signature.specs.BuiltIns.{sort_of, bool_operators, sums, comparisons, eq_operators, with_eqs, with_standard, with_instance, with_instances, signature_with}
use Rattle.elan_signature.specs.Whole.{IsNoted, built_of, sorts_of}

-- none of these is an injection
abbrev Plain : List Operator → Type 0
Plain os = IsNoted os []

more_plain : (os more : List Operator) → Plain os → Plain more → Plain (os ++ more)
more_plain os more e f = flat_map-append (λ o. leads o.pieces o.args o.sort) os more ∙ ap₂ (λ xs ys. xs ++ ys) e f

eqs_plain : (sorts : List Name) (os : List Operator) (args : List Name) → Plain os → Plain (with_eqs sorts os args)
eqs_plain sorts os [] e = e
eqs_plain sorts os (a ∷ more) e =
    eqs_plain sorts (os ++ eq_operators (sort_of sorts (codes "bool")) (sort_of sorts a.bytes)) more
    (more_plain os (eq_operators (sort_of sorts (codes "bool")) (sort_of sorts a.bytes)) e refl)

module _ (sorts : List Name) where
  standard_plain : (g : Signature) (built_in : Standard) (args : List Name) → Plain g.operators
      → Plain (with_standard sorts g built_in args).operators
  standard_plain g standard.Bool args e = more_plain g.operators (bool_operators (sort_of sorts (codes "bool"))) e refl
  standard_plain g standard.Int args e = more_plain (g.operators ++ sums (sort_of sorts (codes "int")))
      (comparisons (sort_of sorts (codes "bool")) (sort_of sorts (codes "int")))
      (more_plain g.operators (sums (sort_of sorts (codes "int"))) e refl) refl
  standard_plain g standard.Eq args e = eqs_plain sorts g.operators args e

  instance_plain : (g : Signature) (i : Instance) (o : Origin) → Plain g.operators
      → Plain (with_instance sorts g i o).operators
  instance_plain g i (origin.Builtin built_in) e = standard_plain g built_in i.args e
  instance_plain g i (origin.Text text m) e = e

  instances_plain : (g : Signature) (is : List Instance) → Plain g.operators → Plain (with_instances sorts g is).operators
  instances_plain g [] e = e
  instances_plain g (i ∷ is) e = instances_plain (with_instance sorts g i i.origin) is (instance_plain g i i.origin e)

pub built_noted : (f : Flat) → IsNoted (built_of f).operators []
built_noted f = instances_plain (sorts_of f) (signature_with (sorts_of f)) f.instances refl

-- ---- sorts

module _ (sorts : List Name) where
  standard_sorts : (g : Signature) (built_in : Standard) (args : List Name) → (with_standard sorts g built_in args).sorts ≡ g.sorts
  standard_sorts g standard.Bool args = refl
  standard_sorts g standard.Int args = refl
  standard_sorts g standard.Eq args = refl

  instance_sorts : (g : Signature) (i : Instance) (o : Origin) → (with_instance sorts g i o).sorts ≡ g.sorts
  instance_sorts g i (origin.Builtin built_in) = standard_sorts g built_in i.args
  instance_sorts g i (origin.Text text m) = refl

  instances_sorts : (g : Signature) (is : List Instance) → (with_instances sorts g is).sorts ≡ g.sorts
  instances_sorts g [] = refl
  instances_sorts g (i ∷ is) =
      instances_sorts (with_instance sorts g i i.origin) is ∙ instance_sorts g i i.origin

-- the built-in modules leave the sorts
pub built_sorts : (f : Flat) → (built_of f).sorts ≡ sorts_of f
built_sorts f = instances_sorts (sorts_of f) (signature_with (sorts_of f)) f.instances
