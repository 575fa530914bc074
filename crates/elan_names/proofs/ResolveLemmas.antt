-- The equations of strategies that are read at a sort.
use Rattle.std.proofs.Common.{◌≡◌, refl, suc, ap, ◌∙◌, ℕ, Bool, List, [], ◌∷◌, length, map}
use Rattle.std.specs.Prelude.{Result, Ok, Err}
use Rattle.elan_terms.specs.declared.tree.SortId.{SortId}
use Rattle.elan_names.specs.declared.fault.Fault.{Fault}
use Rattle.elan_phrases.specs.declared.plan.Plan.{Plan}
use Rattle.elan_phrases.specs.declared.plan.PlanNode.TheVariants as node
use Rattle.elan_program.specs.declared.strategy.Strategy.{Strategy}
use Rattle.elan_program.specs.declared.strategy.StrategyNode.TheVariants as made
use Rattle.elan_names.specs.Resolved.{Site, resolved, at_level, all_at, next, made_so, applied_at, refused_at, name_at, word_at}
use Rattle.elan_names.specs.declared.fault.Stopped.{Stopped}
use Rattle.elan_names.specs.declared.fault.Stopped.TheVariants.{Refused, NoMemory}
use Rattle.elan_names.specs.Gives.{Gives}
use Rattle.elan_phrases.proofs.PlanLemmas.{plan_falls, fold-applied, fold-seq, fold-all, fold-first, fold-repeat, fold-iterate, fold-iterate_plus, fold-normalise}

pub same_length : {A B : Type 0} (f : A → B) (xs : List A) → length xs ≡ length (map f xs)
same_length f [] = refl
same_length f (x ∷ xs) = ap suc (same_length f xs)

module _ (sc : Site) (sort : SortId) (p : Plan) where
  at : {r : SortId → Result Strategy Fault} → resolved sc p ≡ r → resolved sc p sort ≡ r sort
  at e = ap (λ r. r sort) e

  pub read-id : p.node ≡ node.Id → resolved sc p sort ≡ made_so made.Id
  unfolding resolved
  read-id e = ap (λ i. resolved sc (record { node = i }) sort) e

  pub read-fail : p.node ≡ node.Fail → resolved sc p sort ≡ made_so made.Fail
  unfolding resolved
  read-fail e = ap (λ i. resolved sc (record { node = i }) sort) e

  pub read-name : (t : ℕ) → p.node ≡ node.Name t → resolved sc p sort ≡ refused_at t (name_at sc sort (word_at sc t))
  unfolding resolved
  read-name t e = ap (λ i. resolved sc (record { node = i }) sort) e

  pub read-applied : (t : ℕ) (ps : List Plan) → p.node ≡ node.Applied t ps → resolved sc p sort ≡ applied_at sc t sort (map (resolved sc) ps)
  unfolding resolved
  read-applied t ps e = at (fold-applied (at_level sc) p t ps e)

  pub read-seq : (ps : List Plan) → p.node ≡ node.Seq ps
      → resolved sc p sort ≡ next (all_at sort [] (map (resolved sc) ps)) (λ ss. made_so (made.Seq ss))
  unfolding resolved
  read-seq ps e = at (fold-seq (at_level sc) p ps e)

  pub read-all : (ps : List Plan) → p.node ≡ node.All ps
      → resolved sc p sort ≡ next (all_at sort [] (map (resolved sc) ps)) (λ ss. made_so (made.All ss))
  unfolding resolved
  read-all ps e = at (fold-all (at_level sc) p ps e)

  pub read-first : (one : Bool) (ps : List Plan) → p.node ≡ node.First one ps
      → resolved sc p sort ≡ next (all_at sort [] (map (resolved sc) ps)) (λ ss. made_so (made.First one ss))
  unfolding resolved
  read-first one ps e = at (fold-first (at_level sc) p one ps e)

  pub read-repeat : (q : Plan) → p.node ≡ node.Repeat q → resolved sc p sort ≡ next (resolved sc q sort) (λ s. made_so (made.Repeat s))
  unfolding resolved
  read-repeat q e = at (fold-repeat (at_level sc) p q e)

  pub read-iterate : (q : Plan) → p.node ≡ node.Iterate q → resolved sc p sort ≡ next (resolved sc q sort) (λ s. made_so (made.Iterate s))
  unfolding resolved
  read-iterate q e = at (fold-iterate (at_level sc) p q e)

  pub read-iterate_plus : (q : Plan) → p.node ≡ node.IteratePlus q → resolved sc p sort ≡ next (resolved sc q sort) (λ s. made_so (made.IteratePlus s))
  unfolding resolved
  read-iterate_plus q e = at (fold-iterate_plus (at_level sc) p q e)

  pub read-normalise : (q : Plan) → p.node ≡ node.Normalise q → resolved sc p sort ≡ next (resolved sc q sort) (λ s. made_so (made.Normalise sort s))
  unfolding resolved
  read-normalise q e = at (fold-normalise (at_level sc) p q e)

-- ---- what a call gives, from what the calls in it gave

pub next_err : {A B : Type 0} (e : Stopped) (d : Result A Fault) (more : A → Result B Fault) → Gives (Err e) d → Gives (Err e) (next d more)
next_err (Refused f) d more g = ap (λ r. next r more) g
next_err NoMemory d more g = tt

kept : {A : Type 0} {d d' : Result A Fault} (r : Result A Stopped) → d ≡ d' → Gives r d' → Gives r d
kept (Ok a) e g = e ∙ g
kept (Err (Refused f)) e g = e ∙ g
kept (Err NoMemory) e g = tt

module _ (sc : Site) (sort : SortId) (p : Plan) where
  abbrev each_read : List Plan → Result (List Strategy) Fault
  each_read ps = all_at sort [] (map (resolved sc) ps)

  pub give-name : (t : ℕ) (r : Result Strategy Stopped) → p.node ≡ node.Name t → Gives r (refused_at t (name_at sc sort (word_at sc t))) → Gives r (resolved sc p sort)
  give-name t r e g = kept r (read-name sc sort p t e) g

  pub give-applied : (t : ℕ) (ps : List Plan) (r : Result Strategy Stopped) → p.node ≡ node.Applied t ps
      → Gives r (applied_at sc t sort (map (resolved sc) ps)) → Gives r (resolved sc p sort)
  give-applied t ps r e g = kept r (read-applied sc sort p t ps e) g

  pub ok-seq : (ps : List Plan) (ss : List Strategy) → p.node ≡ node.Seq ps → each_read ps ≡ Ok ss → resolved sc p sort ≡ made_so (made.Seq ss)
  ok-seq ps ss e d = read-seq sc sort p ps e ∙ ap (λ x. next x (λ ss. made_so (made.Seq ss))) d

  pub err-seq : (ps : List Plan) (s : Stopped) → p.node ≡ node.Seq ps → Gives (Err s) (each_read ps) → Gives (Err s) (resolved sc p sort)
  err-seq ps s e g = kept (Err s) (read-seq sc sort p ps e) (next_err s (each_read ps) (λ ss. made_so (made.Seq ss)) g)

  pub ok-all : (ps : List Plan) (ss : List Strategy) → p.node ≡ node.All ps → each_read ps ≡ Ok ss → resolved sc p sort ≡ made_so (made.All ss)
  ok-all ps ss e d = read-all sc sort p ps e ∙ ap (λ x. next x (λ ss. made_so (made.All ss))) d

  pub err-all : (ps : List Plan) (s : Stopped) → p.node ≡ node.All ps → Gives (Err s) (each_read ps) → Gives (Err s) (resolved sc p sort)
  err-all ps s e g = kept (Err s) (read-all sc sort p ps e) (next_err s (each_read ps) (λ ss. made_so (made.All ss)) g)

  pub ok-first : (one : Bool) (ps : List Plan) (ss : List Strategy) → p.node ≡ node.First one ps → each_read ps ≡ Ok ss → resolved sc p sort ≡ made_so (made.First one ss)
  ok-first one ps ss e d = read-first sc sort p one ps e ∙ ap (λ x. next x (λ ss. made_so (made.First one ss))) d

  pub err-first : (one : Bool) (ps : List Plan) (s : Stopped) → p.node ≡ node.First one ps → Gives (Err s) (each_read ps) → Gives (Err s) (resolved sc p sort)
  err-first one ps s e g = kept (Err s) (read-first sc sort p one ps e) (next_err s (each_read ps) (λ ss. made_so (made.First one ss)) g)

  module _ (q : Plan) where
    pub ok-repeat : (s : Strategy) → p.node ≡ node.Repeat q → resolved sc q sort ≡ Ok s → resolved sc p sort ≡ made_so (made.Repeat s)
    ok-repeat s e d = read-repeat sc sort p q e ∙ ap (λ x. next x (λ s. made_so (made.Repeat s))) d

    pub err-repeat : (s : Stopped) → p.node ≡ node.Repeat q → Gives (Err s) (resolved sc q sort) → Gives (Err s) (resolved sc p sort)
    err-repeat s e g = kept (Err s) (read-repeat sc sort p q e) (next_err s (resolved sc q sort) (λ s. made_so (made.Repeat s)) g)

    pub ok-iterate : (s : Strategy) → p.node ≡ node.Iterate q → resolved sc q sort ≡ Ok s → resolved sc p sort ≡ made_so (made.Iterate s)
    ok-iterate s e d = read-iterate sc sort p q e ∙ ap (λ x. next x (λ s. made_so (made.Iterate s))) d

    pub err-iterate : (s : Stopped) → p.node ≡ node.Iterate q → Gives (Err s) (resolved sc q sort) → Gives (Err s) (resolved sc p sort)
    err-iterate s e g = kept (Err s) (read-iterate sc sort p q e) (next_err s (resolved sc q sort) (λ s. made_so (made.Iterate s)) g)

    pub ok-iterate_plus : (s : Strategy) → p.node ≡ node.IteratePlus q → resolved sc q sort ≡ Ok s → resolved sc p sort ≡ made_so (made.IteratePlus s)
    ok-iterate_plus s e d = read-iterate_plus sc sort p q e ∙ ap (λ x. next x (λ s. made_so (made.IteratePlus s))) d

    pub err-iterate_plus : (s : Stopped) → p.node ≡ node.IteratePlus q → Gives (Err s) (resolved sc q sort) → Gives (Err s) (resolved sc p sort)
    err-iterate_plus s e g = kept (Err s) (read-iterate_plus sc sort p q e) (next_err s (resolved sc q sort) (λ s. made_so (made.IteratePlus s)) g)

    pub ok-normalise : (s : Strategy) → p.node ≡ node.Normalise q → resolved sc q sort ≡ Ok s → resolved sc p sort ≡ made_so (made.Normalise sort s)
    ok-normalise s e d = read-normalise sc sort p q e ∙ ap (λ x. next x (λ s. made_so (made.Normalise sort s))) d

    pub err-normalise : (s : Stopped) → p.node ≡ node.Normalise q → Gives (Err s) (resolved sc q sort) → Gives (Err s) (resolved sc p sort)
    err-normalise s e g = kept (Err s) (read-normalise sc sort p q e) (next_err s (resolved sc q sort) (λ s. made_so (made.Normalise sort s)) g)

pub ruleset read_rules = (plan_falls, read-id, read-fail, give-name, give-applied, same_length, ok-seq, err-seq, ok-all, err-all, ok-first, err-first, ok-repeat, err-repeat, ok-iterate, err-iterate, ok-iterate_plus, err-iterate_plus, ok-normalise, err-normalise)
