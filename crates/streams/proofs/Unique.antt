-- The contracts of this crate's public functions leave no choice, but for those that tell what comes from outside.
use mathlib.Core.Path.{refl, sym, ◌∙◌}
use Prim.Native.Nat.{ℕ}
use denote.Ref.{Bor, MutBor}
use denote.RattleType.{RattleType}
use denote.Param.{number}
use denote.Param.Laws.{Laws}
use mir.Syntax.{Dict, w64}
use mir.Val.{Fits}
use lib.ListN.{length}
use mathlib.Core.List.{List}
use Rattle.numbers.specs.Once.{Once}
use Rattle.streams.specs.declared.Said.{Said}
use Rattle.streams.specs.Streams.{Speech}
use Rattle.streams.specs.Work.{Speaks, AlikeFrom, SpeaksOfTwo, AlikeOfTwoFrom}
use Rattle.streams.proofs.Laws.{own_read, same_said, same_room}
use Rattle.streams.proofs.keep_rest
use Rattle.streams.specs.contracts.keep_rest as keep_rest'
use Rattle.streams.proofs.within
use Rattle.streams.specs.contracts.within as within'
use Rattle.streams.proofs.put_unread
use Rattle.streams.specs.contracts.put_unread as put_unread'
use Rattle.streams.proofs.put_refused
use Rattle.streams.specs.contracts.put_refused as put_refused'
use Rattle.streams.proofs.put_answer
use Rattle.streams.specs.contracts.put_answer as put_answer'
use Rattle.streams.proofs.answer_input
use Rattle.streams.specs.contracts.answer_input as answer_input'
use Rattle.streams.specs.contracts.put_answer_of_two as put_answer_of_two'
use Rattle.streams.proofs.answer_files
use Rattle.streams.specs.contracts.answer_files as answer_files'
use Rattle.streams.proofs.put_answer_of_two
use Rattle.streams.proofs.say
use Rattle.streams.specs.contracts.say as say'
use Rattle.streams.proofs.say_with_file
use Rattle.streams.specs.contracts.say_with_file as say_with_file'

pub keep_rest_once : Once keep_rest'.ended keep_rest.Reads.Pre keep_rest.Reads.Learnt
keep_rest_once κs a r r' w w' p h h' = (h.counted ∙ sym h'.counted, λ i. ((h.written ∙ sym h'.written) i, (tt, (tt, tt))))

pub within_once : Once within'.ended within.Reads.Pre within.Reads.Learnt
within_once κs a r r' w w' p h h' = (h.least ∙ sym h'.least, refl)

pub put_unread_once : Once put_unread'.ended put_unread.Reads.Pre put_unread.Reads.Learnt
put_unread_once κs a r r' w w' p h h' = (same_said h h', λ i. (tt, (same_room h h' i, tt)))

pub put_refused_once : Once put_refused'.ended put_refused.Reads.Pre put_refused.Reads.Learnt
put_refused_once κs a r r' w w' p h h' = (same_said h h', λ i. (tt, (tt, (same_room h h' i, tt))))

pub say_once : Once say'.ended say.Reads.Pre say.Reads.Learnt
say_once κs a r r' w w' p h h' = (refl, refl)

pub say_with_file_once : Once say_with_file'.ended say_with_file.Reads.Pre say_with_file.Reads.Learnt
say_with_file_once κs a r r' w w' p h h' = (refl, refl)

-- a work that leaves no choice: it says what a speech has
pub record Spoken (post : Bor (List ℕ) → MutBor (List ℕ) → Said → MutBor (List ℕ) → Type 0) (size : ℕ) : Type 0 where
  pub speech : List ℕ → Speech
  pub says : Speaks post speech
  pub alike : AlikeFrom size speech

pub put_answer_once : (F : RattleType) (laws : Laws F) (call : put_answer'.F-FnOnce.Ghosts F) (d : Dict) (e : Dict)
    → Once (put_answer'.ended F call d e)
    (λ κs a. put_answer.Reads.Pre F laws call d e κs a
    × Spoken ((put_answer'.F-FnOnce.words F call).post a.1.1.1.1.0) (length a.1.0.now))
    (put_answer.Reads.Learnt F laws call d e)
put_answer_once F laws call d e κs a r r' w w' p h h' =
    let front = own_read a.1.0.now a.1.1.0 in
    let x = h p.1.speech p.1.says p.1.alike _ front in
    let y = h' p.1.speech p.1.says p.1.alike _ front in
    (same_said x y, λ i. (tt, (tt, (tt, (same_room x y i, (tt, tt))))))

pub record SpokenOfTwo (post : Bor (List ℕ) → Bor (List ℕ) → MutBor (List ℕ) → Said → MutBor (List ℕ) → Type 0) (one other : ℕ) : Type 0 where
  pub speech : List ℕ → List ℕ → Speech
  pub says : SpeaksOfTwo post speech
  pub alike : AlikeOfTwoFrom one other speech

pub put_answer_of_two_once : (F : RattleType) (laws : Laws F) (call : put_answer_of_two'.F-FnOnce.Ghosts F) (d : Dict) (e : Dict)
    → Once (put_answer_of_two'.ended F call d e)
    (λ κs a. put_answer_of_two.Reads.Pre F laws call d e κs a
    × SpokenOfTwo ((put_answer_of_two'.F-FnOnce.words F call).post a.1.1.1.1.1.0) (length a.0.now) (length a.1.1.0.now))
    (put_answer_of_two.Reads.Learnt F laws call d e)
put_answer_of_two_once F laws call d e κs a r r' w w' p h h' =
    let one = own_read a.0.now a.1.0 in
    let other = own_read a.1.1.0.now a.1.1.1.0 in
    let x = h p.1.speech p.1.says p.1.alike _ _ one other in
    let y = h' p.1.speech p.1.says p.1.alike _ _ one other in
    (same_said x y, λ i. (tt, (tt, (tt, (tt, (same_room x y i, (tt, tt)))))))

pub answer_input_once : (N : ℕ) (M : ℕ) (F : RattleType) (n : Fits w64 N) (m : Fits w64 M) (laws : Laws F)
    (call : answer_input'.F-FnOnce.Ghosts (number N) (number M) F) (d : Dict) (e : Dict)
    → Once (answer_input'.ended (number N) (number M) F call d e) (answer_input.Reads.Pre N M F n m laws call d e)
    (answer_input.Reads.Learnt N M F n m laws call d e)
answer_input_once N M F n m laws call d e κs a r r' w w' p h h' = (refl, refl)

pub answer_files_once : (N : ℕ) (M : ℕ) (K : ℕ) (F : RattleType) (n : Fits w64 N) (m : Fits w64 M) (k : Fits w64 K) (laws : Laws F)
    (call : answer_files'.F-FnOnce.Ghosts (number N) (number M) (number K) F) (d : Dict) (e : Dict)
    → Once (answer_files'.ended (number N) (number M) (number K) F call d e) (answer_files.Reads.Pre N M K F n m k laws call d e)
    (answer_files.Reads.Learnt N M K F n m k laws call d e)
answer_files_once N M K F n m k laws call d e κs a r r' w w' p h h' = (refl, refl)
