-- Parts as they are made are the parts as they are defined.
use Rattle.std.proofs.Common.{◌≡◌, refl, sym, ap, ◌∙◌, ◌⊎◌, inl, inr, ⊎_elim, subst, ℤ, Bool, true, false, cond, List, [], ◌∷◌, ◌++◌, map, length, nat_lt, filter, flat_map}
use Rattle.elan_terms.specs.declared.tree.OpId.{OpId}
use Rattle.elan_terms.specs.declared.tree.Term.{Term}
use Rattle.elan_terms.specs.declared.tree.TermNode as term
use Rattle.elan_terms.specs.declared.tree.Shapes.{Shapes}
use Rattle.elan_terms.specs.declared.pieces.Sublists.{Sublists}
use Rattle.elan_terms.specs.Trees.{int_term, app_term}
use Rattle.elan_terms.specs.Term.{is_ac, ascending}
use Rattle.elan_terms.specs.Match as defined
use Rattle.elan_terms.specs.Match.{prefixed, once, parts}
use Rattle.elan_terms.specs.Sublists.{begins, with_first, split, nodes, pieces_at, pieces}
use Rattle.elan_terms.specs.Sublists as made
use Rattle.elan_terms.proofs.Lists.{In, in_left, in_right, in_either, in_filter, in_kept, in_map, in_mapped, in_flat, in_flattened}
use Rattle.elan_terms.proofs.Induction as induction
use Rattle.elan_terms.proofs.OrderLemmas.{same-equal}
use Rattle.elan_terms.proofs.Sorting.{not_true, ascending-pairs}
use Rattle.elan_terms.proofs.PartLemmas.{once-same, once-ascending}
use Rattle.elan_terms.proofs.MatchLemmas as defined_pieces
use Rattle.elan_terms.proofs.TreeLemmas.{para_term-app}

-- all of them
abbrev all_of : Sublists → List (List Term)
all_of lists = lists.whole ++ lists.others

-- ---- what is made is a sublist

prefixed-in : (lists : List (List Term)) (t : Term) (us : List Term) → In us (prefixed lists t) → (vs : List Term) × In vs lists × (us ≡ t ∷ vs)
unfolding prefixed
prefixed-in lists t us i = in_map (λ ts. t ∷ ts) lists us i

in_prefixed : (lists : List (List Term)) (t : Term) (vs : List Term) → In vs lists → In (t ∷ vs) (prefixed lists t)
unfolding prefixed
in_prefixed lists t vs i = in_mapped (λ ts. t ∷ ts) lists vs i

begun_by : (b : Bool) (w o : List (List Term)) (t : Term) (us : List Term) → In us (cond b (prefixed w t) (prefixed w t ++ prefixed o t)) → (vs : List Term) × In vs (w ++ o) × (us ≡ t ∷ vs)
begun_by true w o t us i = let h = prefixed-in w t us i in (h.0, in_left w o h.0 h.1, h.2)
begun_by false w o t us i = ⊎_elim
    (λ j. let h = prefixed-in w t us j in (h.0, in_left w o h.0 h.1, h.2))
    (λ j. let h = prefixed-in o t us j in (h.0, in_right w o h.0 h.1, h.2))
    (in_either (prefixed w t) (prefixed o t) us i)

made-sublist : (ts us : List Term) → In us (all_of (split ts)) → In us (defined.sublists ts)
made-sublist [] us i = i
made-sublist (t ∷ ts) us i = ⊎_elim
    (λ j. let h = begun_by (begins t ts) (split ts).whole (split ts).others t us j in
    in_left (map (λ ys. t ∷ ys) (defined.sublists ts)) (defined.sublists ts) us
    (subst (λ l. In l (map (λ ys. t ∷ ys) (defined.sublists ts))) (sym h.2) (in_mapped (λ ys. t ∷ ys) (defined.sublists ts) h.0 (made-sublist ts h.0 h.1))))
    (λ j. in_right (map (λ ys. t ∷ ys) (defined.sublists ts)) (defined.sublists ts) us (made-sublist ts us j))
    (in_either (with_first t ts (split ts)).whole (with_first t ts (split ts)).others us i)

-- ---- each sublist is made

-- with an equal term before it, a list that leaves one of the first out is a sublist still
put_before : (t : Term) (ts vs : List Term) → begins t ts ≡ true → In vs (split ts).others → In (t ∷ vs) (defined.sublists ts)
put_before t [] vs e i = not_true (sym e)
put_before t (u ∷ us) vs e i =
    in_left (map (λ ys. u ∷ ys) (defined.sublists us)) (defined.sublists us) (t ∷ vs)
    (subst (λ x. In (x ∷ vs) (map (λ ys. u ∷ ys) (defined.sublists us))) (sym (same-equal t u e)) (in_mapped (λ ys. u ∷ ys) (defined.sublists us) vs (made-sublist us vs i)))

taken_by : (b : Bool) (t : Term) (ts vs : List Term) → begins t ts ≡ b → ((us : List Term) → In us (defined.sublists ts) → In us (all_of (split ts)))
    → In vs (split ts).whole ⊎ In vs (split ts).others
    → In (t ∷ vs) (cond b (prefixed (split ts).whole t) (prefixed (split ts).whole t ++ prefixed (split ts).others t) ++ all_of (split ts))
taken_by true t ts vs e f (inl i) = in_left (prefixed (split ts).whole t) (all_of (split ts)) (t ∷ vs) (in_prefixed (split ts).whole t vs i)
taken_by true t ts vs e f (inr i) = in_right (prefixed (split ts).whole t) (all_of (split ts)) (t ∷ vs) (f (t ∷ vs) (put_before t ts vs e i))
taken_by false t ts vs e f (inl i) = in_left (prefixed (split ts).whole t ++ prefixed (split ts).others t) (all_of (split ts)) (t ∷ vs)
    (in_left (prefixed (split ts).whole t) (prefixed (split ts).others t) (t ∷ vs) (in_prefixed (split ts).whole t vs i))
taken_by false t ts vs e f (inr i) = in_left (prefixed (split ts).whole t ++ prefixed (split ts).others t) (all_of (split ts)) (t ∷ vs)
    (in_right (prefixed (split ts).whole t) (prefixed (split ts).others t) (t ∷ vs) (in_prefixed (split ts).others t vs i))

sublist-made : (ts us : List Term) → In us (defined.sublists ts) → In us (all_of (split ts))
sublist-made [] us i = i
sublist-made (t ∷ ts) us i = ⊎_elim
    (λ j. let h : (vs : List Term) × In vs (defined.sublists ts) × (us ≡ t ∷ vs) = in_map (λ ys. t ∷ ys) (defined.sublists ts) us j in
    subst (λ l. In l (all_of (split (t ∷ ts)))) (sym h.2)
    (taken_by (begins t ts) t ts h.0 refl (sublist-made ts) (in_either (split ts).whole (split ts).others h.0 (sublist-made ts h.0 h.1))))
    (λ j. in_right (with_first t ts (split ts)).whole (all_of (split ts)) us (sublist-made ts us j))
    (in_either (map (λ ys. t ∷ ys) (defined.sublists ts)) (defined.sublists ts) us i)

-- ---- nodes over them

node-of : (op : OpId) (lists : List (List Term)) (p : Term) → In p (nodes op lists) → (us : List Term) × In us lists × (nat_lt 1 (length us) ≡ true) × (p ≡ app_term op us)
node-of op lists p i =
    let h : (us : List Term) × In us (filter (λ vs. nat_lt 1 (length vs)) lists) × (p ≡ app_term op us) = in_map (app_term op) _ p i in
    let k : In h.0 lists × (nat_lt 1 (length h.0) ≡ true) = in_filter (λ vs. nat_lt 1 (length vs)) lists h.0 h.1 in
    (h.0, k.0, k.1, h.2)

of_node : (op : OpId) (lists : List (List Term)) (p : Term) (us : List Term) → In us lists → nat_lt 1 (length us) ≡ true → p ≡ app_term op us → In p (nodes op lists)
of_node op lists p us i two is =
    subst (λ q. In q (nodes op lists)) (sym is) (in_mapped (app_term op) (filter (λ vs. nat_lt 1 (length vs)) lists) us (in_kept (λ vs. nat_lt 1 (length vs)) lists us i two))

nodes-defined : (op : OpId) (ts : List Term) (p : Term) → In p (nodes op (split ts).whole ++ nodes op (split ts).others) → In p (nodes op (defined.sublists ts))
nodes-defined op ts p i = ⊎_elim
    (λ j. let h = node-of op (split ts).whole p j in of_node op (defined.sublists ts) p h.0 (made-sublist ts h.0 (in_left (split ts).whole (split ts).others h.0 h.1)) h.2 h.3)
    (λ j. let h = node-of op (split ts).others p j in of_node op (defined.sublists ts) p h.0 (made-sublist ts h.0 (in_right (split ts).whole (split ts).others h.0 h.1)) h.2 h.3)
    (in_either (nodes op (split ts).whole) (nodes op (split ts).others) p i)

nodes-made : (op : OpId) (ts : List Term) (p : Term) → In p (nodes op (defined.sublists ts)) → In p (nodes op (split ts).whole ++ nodes op (split ts).others)
nodes-made op ts p i =
    let h = node-of op (defined.sublists ts) p i in
    ⊎_elim
    (λ j. in_left (nodes op (split ts).whole) (nodes op (split ts).others) p (of_node op (split ts).whole p h.0 j h.2 h.3))
    (λ j. in_right (nodes op (split ts).whole) (nodes op (split ts).others) p (of_node op (split ts).others p h.0 j h.2 h.3))
    (in_either (split ts).whole (split ts).others h.0 (sublist-made ts h.0 h.1))

at-defined_by : (b : Bool) (op : OpId) (ts : List Term) (p : Term) → In p (cond b (nodes op (split ts).whole ++ nodes op (split ts).others) (app_term op ts ∷ [])) → In p (cond b (nodes op (defined.sublists ts)) (app_term op ts ∷ []))
at-defined_by true op ts p i = nodes-defined op ts p i
at-defined_by false op ts p i = i

at-made_by : (b : Bool) (op : OpId) (ts : List Term) (p : Term) → In p (cond b (nodes op (defined.sublists ts)) (app_term op ts ∷ [])) → In p (cond b (nodes op (split ts).whole ++ nodes op (split ts).others) (app_term op ts ∷ []))
at-made_by true op ts p i = nodes-made op ts p i
at-made_by false op ts p i = i

at-defined : (shapes : Shapes) (op : OpId) (ts : List Term) (p : Term) → In p (pieces_at shapes op ts) → In p (defined.pieces_at shapes op ts)
unfolding pieces_at defined.pieces_at
at-defined shapes op ts p i = at-defined_by (is_ac shapes op) op ts p i

at-made : (shapes : Shapes) (op : OpId) (ts : List Term) (p : Term) → In p (defined.pieces_at shapes op ts) → In p (pieces_at shapes op ts)
unfolding pieces_at defined.pieces_at
at-made shapes op ts p i = at-made_by (is_ac shapes op) op ts p i

-- ---- the equations of the pieces that are made

pub pieces-int : (shapes : Shapes) (t : Term) (z : ℤ) → t.node ≡ term.Int z → pieces shapes t ≡ t ∷ []
unfolding pieces
pieces-int shapes t z e = ap (λ n. pieces shapes (record { node = n })) e ∙ ap (λ n. record { node = n } ∷ []) (sym e)

firsts : {X Y : Type 0} (f : X → Y) (xs : List X) → map {A = X × Y} (λ a. a.0) (map (λ x. (x, f x)) xs) ≡ xs
firsts f [] = refl
firsts f (x ∷ xs) = ap (λ r. x ∷ r) (firsts f xs)

seconds : {X Y : Type 0} (f : X → List Y) (xs : List X) → flat_map {X = X × List Y} (λ a. a.1) (map (λ x. (x, f x)) xs) ≡ flat_map f xs
seconds f [] = refl
seconds f (x ∷ xs) = ap (λ r. f x ++ r) (seconds f xs)

pub pieces-app : (shapes : Shapes) (t : Term) (op : OpId) (args : List Term) → t.node ≡ term.App op args → pieces shapes t ≡ pieces_at shapes op args ++ flat_map (pieces shapes) args
unfolding pieces
pieces-app shapes t op args e =
    ap (λ n. pieces shapes (record { node = n })) e
    ∙ para_term-app (λ z. int_term z ∷ []) (λ op args. pieces_at shapes op (map (λ a. a.0) args) ++ flat_map (λ a. a.1) args) op args
    ∙ ap (λ ts. pieces_at shapes op ts ++ flat_map (λ (a : Term × List Term). a.1) (map (λ t. (t, pieces shapes t)) args)) (firsts (pieces shapes) args)
    ∙ ap (λ r. pieces_at shapes op args ++ r) (seconds (pieces shapes) args)

pub ruleset pieces_rules = (pieces-int, pieces-app)

-- ---- the pieces of a term

-- the two have the same pieces
abbrev Agree : Shapes → Term → Type 0
Agree shapes t = ((p : Term) → In p (pieces shapes t) → In p (defined.pieces shapes t)) × ((p : Term) → In p (defined.pieces shapes t) → In p (pieces shapes t))

agreed : (shapes : Shapes) (ts : List Term) (t : Term) → induction.AllOf (Agree shapes) ts → In t ts → Agree shapes t
agreed shapes [] t h i = elim i [ ]
agreed shapes (u ∷ ts) t h (inl e) = subst (Agree shapes) (sym e) h.0
agreed shapes (u ∷ ts) t h (inr i) = agreed shapes ts t h.1 i

app-agree : (shapes : Shapes) (op : OpId) (ts : List Term) → induction.AllOf (Agree shapes) ts → Agree shapes (app_term op ts)
app-agree shapes op ts h = (
  λ p i. subst (In p) (sym (defined_pieces.pieces-app shapes (app_term op ts) op ts refl)) (⊎_elim
      (λ j. in_left (defined.pieces_at shapes op ts) (flat_map (defined.pieces shapes) ts) p (at-defined shapes op ts p j))
      (λ j. let k : (x : Term) × In x ts × In p (pieces shapes x) = in_flat (pieces shapes) ts p j in
      in_right (defined.pieces_at shapes op ts) (flat_map (defined.pieces shapes) ts) p (in_flattened (defined.pieces shapes) ts k.0 p k.1 ((agreed shapes ts k.0 h k.1).0 p k.2)))
      (in_either (pieces_at shapes op ts) (flat_map (pieces shapes) ts) p (subst (In p) (pieces-app shapes (app_term op ts) op ts refl) i))),
  λ p i. subst (In p) (sym (pieces-app shapes (app_term op ts) op ts refl)) (⊎_elim
      (λ j. in_left (pieces_at shapes op ts) (flat_map (pieces shapes) ts) p (at-made shapes op ts p j))
      (λ j. let k : (x : Term) × In x ts × In p (defined.pieces shapes x) = in_flat (defined.pieces shapes) ts p j in
      in_right (pieces_at shapes op ts) (flat_map (pieces shapes) ts) p (in_flattened (pieces shapes) ts k.0 p k.1 ((agreed shapes ts k.0 h k.1).1 p k.2)))
      (in_either (defined.pieces_at shapes op ts) (flat_map (defined.pieces shapes) ts) p (subst (In p) (defined_pieces.pieces-app shapes (app_term op ts) op ts refl) i))),
)

int-agree : (shapes : Shapes) (z : ℤ) → Agree shapes (int_term z)
int-agree shapes z = (
  λ p i. subst (In p) (pieces-int shapes (int_term z) z refl ∙ sym (defined_pieces.pieces-int shapes (int_term z) z refl)) i,
  λ p i. subst (In p) (defined_pieces.pieces-int shapes (int_term z) z refl ∙ sym (pieces-int shapes (int_term z) z refl)) i,
)

agree : (shapes : Shapes) (t : Term) → Agree shapes t
agree shapes = induction.ind_term (Agree shapes) (int-agree shapes) (app-agree shapes)

-- ---- the parts

pub parts-made : (shapes : Shapes) (t : Term) → made.once (ascending (pieces shapes t)) ≡ parts shapes t
unfolding parts
parts-made shapes t =
    once-ascending (ascending (pieces shapes t)) (ascending-pairs (pieces shapes t))
    ∙ once-same (pieces shapes t) (defined.pieces shapes t) (agree shapes t).0 (agree shapes t).1

pub ruleset part_rules = (parts-made)
