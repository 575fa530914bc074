-- What the test of equality needs.
use Rattle.std.proofs.Common.{◌≡◌, sym, ◌∙◌, Bool, Decides, is_eq}
use Rattle.elan_terms.specs.declared.tree.Term.{Term}
use Rattle.elan_terms.specs.declared.tree.Shapes.{Shapes}
use Rattle.elan_terms.specs.Term.{order, canon}
use Rattle.elan_terms.specs.Valid.{IsValid}
use Rattle.elan_terms.proofs.OrderLemmas.{same-equal, equal-same}
use Rattle.elan_laws.specs.Equality.{EqualModulo}
use Rattle.elan_laws.proofs.EqualityLaws.{equal-exactly}

pub forms_decide : (x y x' y' : Term) (r : Bool) → x ≡ x' → y ≡ y' → r ≡ is_eq (order x y) → Decides r (x' ≡ y')
forms_decide x y x' y' r ex ey is =
    (λ e. sym ex ∙ same-equal x y (sym is ∙ e) ∙ ey, λ e. is ∙ equal-same x y (ex ∙ e ∙ sym ey))

pub equal_decides : (shapes : Shapes) (t u : Term) (r : Bool) → IsValid shapes t → IsValid shapes u → Decides r (canon shapes t ≡ canon shapes u) → Decides r (EqualModulo shapes t u)
equal_decides shapes t u r v w h = (λ e. (equal-exactly shapes t u v w).1 (h.0 e), λ k. h.1 ((equal-exactly shapes t u v w).0 k))
