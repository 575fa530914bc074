-- What a stream asks comes from its flat program.
use Rattle.std.proofs.Common.{◌≡◌, ℕ, false, true, Bool, List, Result, Ok, Err, refl, sym, ap, subst}
use Rattle.elan_text.specs.declared.refusal.Refusal.{Refusal}
use Rattle.elan_lexer.specs.declared.token.Token.{Token}
use Rattle.elan_syntax.specs.declared.parts.Outline.{Outline}
use Rattle.elan_loaders.specs.Libraries.{SomeRose}
use Rattle.elan_names.specs.Resolved.{next}
use Rattle.elan_modules.specs.declared.flat.Flat.{Flat}
use Rattle.elan_modules.specs.declared.flat.FlattenRefusal.{FlattenRefusal}
use Rattle.elan_modules.specs.declared.flat.FlattenRefusal.TheVariants.{Refused, LoaderFault, NoMemory}
use Rattle.elan_modules.specs.Flattens.{Gives, StopsAt}
use Rattle.elan_modules.specs.Loads.{itself}
use Rattle.elan_modules.specs.Visits.{Library, Halted, Refuses, Silent, flat_program, needs_loaders, nobody}
use Rattle.elan_modules.specs.Walks.{Shelf, IsSound, IsAnswer, Comes, is_fault}
use Rattle.elan_check.specs.declared.prepared.Prepared.{Prepared}
use Rattle.elan_run.specs.Asked.{Tells, IsPreparedIn}
use Rattle.elan_run.specs.Verdict.{asked_of, prepared_of, or_halted}

-- where a definition comes to a name of which nothing is told, nothing is said
comes_silent : (result : Result Prepared FlattenRefusal) → Comes itself result (Err Silent)
comes_silent (Ok p) = tt
comes_silent (Err (Refused r)) = tt
comes_silent (Err LoaderFault) = tt
comes_silent (Err NoMemory) = tt

comes_gives : (result : Result Flat FlattenRefusal) (d : Result Flat Halted) → Gives result d → Comes itself result d
comes_gives (Ok flat) d is = subst (Comes itself (Ok flat)) (sym is) refl
comes_gives (Err (Refused r)) d is = subst (Comes itself (Err (Refused r))) (sym is) refl
comes_gives (Err LoaderFault) d is = tt
comes_gives (Err NoMemory) d is = tt

-- what is asked of a flat program is asked of the stream
went_on : (flat : Flat) (result : Result Prepared FlattenRefusal) (d : Result Flat Halted) → Comes itself (Ok flat) d
    → Comes itself result (or_halted (prepared_of flat)) → Comes itself result (next d (λ f. or_halted (prepared_of f)))
went_on flat result (Ok other) is comes =
    let P : Flat → Type 0 = λ f. Comes itself result (or_halted (prepared_of f)) in
    subst P (sym is) comes
went_on flat result (Err (Refuses r)) is comes = absurd is
went_on flat result (Err Silent) is comes = comes_silent result

-- a stream that has no flat program asks nothing
stopped : (why : FlattenRefusal) (d : Result Flat Halted) → Comes {V = Flat} itself (Err why) d
    → Comes {V = Prepared} itself (Err why) (next d (λ f. or_halted (prepared_of f)))
stopped (Refused r) (Ok flat) is = absurd is
stopped (Refused r) (Err (Refuses s)) is = is
stopped (Refused r) (Err Silent) is = tt
stopped LoaderFault d is = tt
stopped NoMemory d is = tt

-- what is asked of a flat program is answered so
stops_prepared : (result : Result Prepared FlattenRefusal) (x : Result Prepared Refusal) → Comes itself result (or_halted x)
    → is_fault result ≡ false → StopsAt result (or_halted x)
stops_prepared (Ok p) (Ok q) is none = ap Ok is
stops_prepared (Ok p) (Err r) is none = absurd is
stops_prepared (Err (Refused r)) (Ok q) is none = absurd is
stops_prepared (Err (Refused r)) (Err s) is none = ap (λ z. Err (Refuses z)) is
stops_prepared (Err LoaderFault) x is none = absurd cc
stops_prepared (Err NoMemory) x is none = tt

stops_on : (flat : Flat) (result : Result Prepared FlattenRefusal) (d : Result Flat Halted) → d ≡ Ok flat
    → StopsAt result (or_halted (prepared_of flat)) → StopsAt result (next d (λ f. or_halted (prepared_of f)))
stops_on flat result d is stops =
    let P : Result Flat Halted → Type 0 = λ x. StopsAt result (next x (λ f. or_halted (prepared_of f))) in
    subst P (sym is) stops

-- what stops before that stops there
stops_off : (why : FlattenRefusal) (d : Result Flat Halted) → StopsAt {A = Flat} (Err why) d
    → StopsAt {A = Prepared} (Err why) (next d (λ f. or_halted (prepared_of f)))
stops_off (Refused r) d is = subst (λ x. next x (λ f. or_halted (prepared_of f)) ≡ Err (Refuses r)) (sym is) refl
stops_off LoaderFault d is = subst (λ x. next x (λ f. or_halted (prepared_of f)) ≡ Err Silent) (sym is) refl
stops_off NoMemory d is = tt

same_fault : (why : FlattenRefusal) → is_fault {V = Prepared} (Err why) ≡ true → is_fault {V = Flat} (Err why) ≡ true
same_fault (Refused r) e = e
same_fault LoaderFault e = e
same_fault NoMemory e = e

no_fault : {X : Type 0} (b : Bool) → b ≡ false → b ≡ true → X
no_fault b f t = absurd cc

module _ (bytes : List ℕ) (tokens : List Token) (outline : Outline) (s t : Shelf) (flattened : Result Flat FlattenRefusal)
    (sound : (library : Library) → IsSound library s.told → Comes itself flattened (flat_program library bytes tokens outline))
    (alone : needs_loaders bytes tokens outline ≡ false → Gives flattened (flat_program nobody bytes tokens outline))
    (answered : (said : Library) × IsAnswer s.told said × StopsAt flattened (flat_program said bytes tokens outline)) where
  pub tells_on : (flat : Flat) (result : Result Prepared FlattenRefusal) → flattened ≡ Ok flat → IsPreparedIn flat result
      → Tells bytes tokens outline s t result
  unfolding asked_of
  tells_on flat result e prepared =
      let P : Result Flat FlattenRefusal → Library → Type 0 = λ f library. Comes itself f (flat_program library bytes tokens outline) in
      record {
        comes = λ library is. went_on flat result (flat_program library bytes tokens outline)
            (subst (λ f. P f library) e (sound library is)) prepared.comes;
        alone = λ none. went_on flat result (flat_program nobody bytes tokens outline)
            (subst (λ f. P f nobody) e (comes_gives flattened (flat_program nobody bytes tokens outline) (alone none))) prepared.comes;
        answered = (
          answered.0,
          answered.1,
          stops_on flat result (flat_program answered.0 bytes tokens outline)
              (subst (λ f. StopsAt f (flat_program answered.0 bytes tokens outline)) e answered.2)
              (stops_prepared result (prepared_of flat) prepared.comes prepared.fault),
        );
        fault = λ f. no_fault (is_fault result) prepared.fault f;
        needed = λ f. no_fault (is_fault result) prepared.fault f;
      }

  pub tells_off : (why : FlattenRefusal) → flattened ≡ Err why
      → (is_fault flattened ≡ true → SomeRose s.failures t.failures)
      → (is_fault flattened ≡ true → needs_loaders bytes tokens outline ≡ true)
      → Tells bytes tokens outline s t (Err why)
  unfolding asked_of
  tells_off why e fault needed =
      let P : Result Flat FlattenRefusal → Library → Type 0 = λ f library. Comes itself f (flat_program library bytes tokens outline) in
      let F : Result Flat FlattenRefusal → Type 0 = λ f. is_fault f ≡ true in
      record {
        comes = λ library is. stopped why (flat_program library bytes tokens outline) (subst (λ f. P f library) e (sound library is));
        alone = λ none. stopped why (flat_program nobody bytes tokens outline)
            (subst (λ f. P f nobody) e (comes_gives flattened (flat_program nobody bytes tokens outline) (alone none)));
        answered = (
          answered.0,
          answered.1,
          stops_off why (flat_program answered.0 bytes tokens outline)
              (subst (λ f. StopsAt f (flat_program answered.0 bytes tokens outline)) e answered.2),
        );
        fault = λ f. fault (subst F (sym e) (same_fault why f));
        needed = λ f. needed (subst F (sym e) (same_fault why f));
      }
