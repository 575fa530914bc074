-- Counting patterns one after the other.
use Rattle.std.proofs.Common.{◌≡◌, refl, sym, ap, ◌∙◌, ℕ, ◌+◌, ◌≤◌, ◌==◌, Bool, true, false, cond, not, List, [], ◌∷◌, ◌++◌, length, filter, get_or, arith}
use Rattle.elan_terms.specs.declared.tree.OpId.{OpId}
use Rattle.elan_terms.specs.declared.tree.SortId.{SortId}
use Rattle.elan_terms.specs.declared.tree.Pattern.{Pattern}
use Rattle.elan_terms.specs.declared.tree.PatternNode as pattern
use Rattle.elan_arms.specs.Arms.{apart_node, taken_apart}
use Rattle.elan_arms.proofs.Patterns.{apart-same, apart-other}
use Rattle.elan_look.specs.declared.count.Counts.{Counts}
use Rattle.elan_look.specs.declared.sight.Sight.{Sight}
use Rattle.elan_look.specs.Sights.{is_given, is_sought}
use Rattle.elan_look.specs.Nodes.{settled_of, loose_of, settled, loose, one_more, counted}
use Rattle.elan_look.proofs.TellLemmas.{others, others-cons}

module _ {X : Type 0} (test : X → Bool) where
  filter_by : (x : X) (xs ys zs : List X) (b : Bool) → zs ≡ xs ++ ys → cond b (x ∷ zs) zs ≡ cond b (x ∷ xs) xs ++ ys
  filter_by x xs ys zs true e = ap (λ us. x ∷ us) e
  filter_by x xs ys zs false e = e

  pub filter-append : (xs ys : List X) → filter test (xs ++ ys) ≡ filter test xs ++ filter test ys
  filter-append [] ys = refl
  filter-append (x ∷ xs) ys = filter_by x (filter test xs) (filter test ys) (filter test (xs ++ ys)) (test x) (filter-append xs ys)

  pub filter-one : (x : X) → test x ≡ true → filter test (x ∷ []) ≡ x ∷ []
  filter-one x e = ap (λ b. cond b (x ∷ []) []) e

  pub filter-none : (x : X) → test x ≡ false → filter test (x ∷ []) ≡ []
  filter-none x e = ap (λ b. cond b (x ∷ []) []) e

module _ {N : Type 0} (s : Sight N) (op : OpId) where
  -- ---- one pattern

  -- a pattern by its node
  pub apart_var : (p : Pattern) (x : ℕ) (sort : SortId) → p.node ≡ pattern.Var x sort → apart_node op p.node ≡ p ∷ []
  apart_var p x sort e = ap (apart_node op) e ∙ ap (λ n. record { node = n } ∷ []) (sym e)

  pub apart_int : (p : Pattern) (z : _) → p.node ≡ pattern.Int z → apart_node op p.node ≡ p ∷ []
  apart_int p z e = ap (apart_node op) e ∙ ap (λ n. record { node = n } ∷ []) (sym e)

  pub apart_other : (p : Pattern) (f : OpId) (ps : List Pattern) → p.node ≡ pattern.App f ps → (op.0 == f.0) ≡ false → apart_node op p.node ≡ p ∷ []
  apart_other p f ps e h = ap (apart_node op) e ∙ apart-other op f ps h ∙ ap (λ n. record { node = n } ∷ []) (sym e)

  pub apart_nested : (p : Pattern) (f : OpId) (ps : List Pattern) → p.node ≡ pattern.App f ps → (op.0 == f.0) ≡ true → apart_node op p.node ≡ taken_apart op ps
  apart_nested p f ps e h = ap (apart_node op) e ∙ apart-same op f ps h

  pub settled-apart : (ps : List Pattern) → filter (is_given s) (taken_apart op ps) ≡ settled s op ps
  settled-apart [] = refl
  settled-apart (p ∷ ps) = filter-append (is_given s) (apart_node op p.node) (taken_apart op ps) ∙ ap (λ qs. settled_of s op p ++ qs) (settled-apart ps)

  pub loose-apart : (ps : List Pattern) → filter (λ q. not (is_given s q)) (taken_apart op ps) ≡ loose s op ps
  loose-apart [] = refl
  loose-apart (p ∷ ps) = filter-append (λ q. not (is_given s q)) (apart_node op p.node) (taken_apart op ps) ∙ ap (λ qs. loose_of s op p ++ qs) (loose-apart ps)

  -- a pattern that the operator heads gives way
  pub settled-nested : (p : Pattern) (f : OpId) (ps : List Pattern) → p.node ≡ pattern.App f ps → (op.0 == f.0) ≡ true → settled_of s op p ≡ settled s op ps
  settled-nested p f ps e h = ap (filter (is_given s)) (apart_nested p f ps e h) ∙ settled-apart ps

  pub loose-nested : (p : Pattern) (f : OpId) (ps : List Pattern) → p.node ≡ pattern.App f ps → (op.0 == f.0) ≡ true → loose_of s op p ≡ loose s op ps
  loose-nested p f ps e h = ap (filter (λ q. not (is_given s q))) (apart_nested p f ps e h) ∙ loose-apart ps

  -- one that stands alone is settled or loose
  pub settled-given : (p : Pattern) → apart_node op p.node ≡ p ∷ [] → is_given s p ≡ true → settled_of s op p ≡ p ∷ []
  settled-given p e h = ap (filter (is_given s)) e ∙ filter-one (is_given s) p h

  pub settled-open : (p : Pattern) → apart_node op p.node ≡ p ∷ [] → is_given s p ≡ false → settled_of s op p ≡ []
  settled-open p e h = ap (filter (is_given s)) e ∙ filter-none (is_given s) p h

  pub loose-given : (p : Pattern) → apart_node op p.node ≡ p ∷ [] → is_given s p ≡ true → loose_of s op p ≡ []
  loose-given p e h = ap (filter (λ q. not (is_given s q))) e ∙ filter-none (λ q. not (is_given s q)) p (ap not h)

  pub loose-open : (p : Pattern) → apart_node op p.node ≡ p ∷ [] → is_given s p ≡ false → loose_of s op p ≡ p ∷ []
  loose-open p e h = ap (filter (λ q. not (is_given s q))) e ∙ filter-one (λ q. not (is_given s q)) p (ap not h)

  -- ---- counts

  counted-append : (ps qs : List Pattern) (c : Counts) → counted s (ps ++ qs) c ≡ counted s qs (counted s ps c)
  counted-append [] qs c = refl
  counted-append (p ∷ ps) qs c = counted-append ps qs (one_more s p.node c)

  pub count-none : (p : Pattern) (c : Counts) → apart_node op p.node ≡ p ∷ [] → is_given s p ≡ true → c ≡ counted s (loose_of s op p) c
  count-none p c e h = sym (ap (λ qs. counted s qs c) (loose-given p e h))

  pub count-sought : (p : Pattern) (x : ℕ) (sort : SortId) (c : Counts) → p.node ≡ pattern.Var x sort → is_given s p ≡ false → is_sought s x ≡ true
      → record c { sought = c.sought + 1 } ≡ counted s (loose_of s op p) c
  count-sought p x sort c e h k = sym (ap (λ qs. counted s qs c) (loose-open p (apart_var p x sort e) h) ∙ ap (λ n. one_more s n c) e
      ∙ ap (λ b. cond b (record c { sought = c.sought + 1 }) (record c { free = c.free + 1 })) k)

  pub count-open : (p : Pattern) (x : ℕ) (sort : SortId) (c : Counts) → p.node ≡ pattern.Var x sort → is_given s p ≡ false → is_sought s x ≡ false
      → record c { free = c.free + 1 } ≡ counted s (loose_of s op p) c
  count-open p x sort c e h k = sym (ap (λ qs. counted s qs c) (loose-open p (apart_var p x sort e) h) ∙ ap (λ n. one_more s n c) e
      ∙ ap (λ b. cond b (record c { sought = c.sought + 1 }) (record c { free = c.free + 1 })) k)

  pub count-other : (p : Pattern) (f : OpId) (ps : List Pattern) (c : Counts) → p.node ≡ pattern.App f ps → (op.0 == f.0) ≡ false → is_given s p ≡ false
      → record c { others = c.others + 1 } ≡ counted s (loose_of s op p) c
  count-other p f ps c e k h = sym (ap (λ qs. counted s qs c) (loose-open p (apart_other p f ps e k) h) ∙ ap (λ n. one_more s n c) e)

  pub count-nested : (p : Pattern) (f : OpId) (ps qs : List Pattern) (c more : Counts) → p.node ≡ pattern.App f ps → (op.0 == f.0) ≡ true → qs ≡ ps → more ≡ counted s (loose s op qs) c → more ≡ counted s (loose_of s op p) c
  count-nested p f ps qs c more e k f' h = h ∙ ap (λ rs. counted s (loose s op rs) c) f' ∙ sym (ap (λ rs. counted s rs c) (loose-nested p f ps e k))

  pub count-empty : (ps : List Pattern) (c : Counts) → length ps ≤ 0 → c ≡ counted s (loose s op ps) c
  count-empty [] c l = refl
  count-empty (p ∷ ps) c l = absurd (omega arith)

  pub count-both : (ps : List Pattern) (p : Pattern) (c more all : Counts) → 1 ≤ length ps → p ≡ get_or ps 0 p → more ≡ counted s (loose_of s op p) c → all ≡ counted s (loose s op (others ps)) more
      → all ≡ counted s (loose s op ps) c
  count-both [] p c more all l e h k = absurd (omega arith)
  count-both (q ∷ ps) p c more all l e h k = k ∙ ap (λ rs. counted s (loose s op rs) more) (others-cons q ps) ∙ ap (counted s (loose s op ps)) (h ∙ ap (λ r. counted s (loose_of s op r) c) e)
      ∙ sym (counted-append (loose_of s op q) (loose s op ps) c)
