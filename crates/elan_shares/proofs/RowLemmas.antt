-- Rows and their terms.
use Rattle.std.proofs.Common.{◌≡◌, refl, ap, suc, ◌-◌, ◌≤◌, List, [], ◌∷◌, length, take, drop, take_all, is_gt, arith}
use Rattle.boxcar.specs.Table.{Where}
use Rattle.elan_terms.specs.declared.tree.Term.{Term}
use Rattle.elan_terms.specs.Ascending.{NotAfter}
use Rattle.elan_terms.proofs.OrderLemmas.{order-itself}
use Rattle.elan_table.specs.Rows.{terms}

pub not_after-itself : (t : Term) → NotAfter t t
not_after-itself t = ap is_gt (order-itself t)

pub terms-length : (rows : List (Where Term)) → length (terms rows) ≡ length rows
terms-length [] = refl
terms-length (w ∷ rows) = ap suc (terms-length rows)

-- the rows after the first
abbrev pub others : List (Where Term) → List (Where Term)
others rows = take (length rows - 1) (drop 1 rows)

pub others-cons : (w : Where Term) (rows : List (Where Term)) → others (w ∷ rows) ≡ rows
others-cons w rows = let le : length rows ≤ length (w ∷ rows) - 1 = omega arith in take_all (length (w ∷ rows) - 1) rows le
