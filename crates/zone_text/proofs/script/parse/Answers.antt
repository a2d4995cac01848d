use Rattle.std.proofs.Common.{◌≡◌, ℕ, ◌+◌, ◌<◌, ◌≤◌, List, [], ◌∷◌, ◌++◌, length, get_or, drop, Ok, None, inl, inr, zero-add, sym, refl, ap, ◌∙◌, arith, rules, tests}
use Rattle.std.specs.List.{slice_split, enumerate_from}
use Rattle.std.proofs.lemmas.Iterator.Consumers.{YieldsList-turn, YieldsList-end, YieldsList-at, YieldsList-from_enumerate}
use Rattle.std.proofs.lemmas.Iterator.Splits.{YieldsList-from_slice_split}
use Rattle.std.proofs.lemmas.List.{at_drop_more, at_drop_all, length_push}
use Rattle.std.proofs.lemmas.List.FromFn.{length-enumerate_from, get_or-enumerate_from}
use Rattle.std.proofs.lemmas.Result.{err_from_is_err_and}
use Rattle.zone_text.specs.declared.script.ParseError.{ParseError}
use Rattle.zone_text.specs.declared.script.ParseError.TheVariants.{Line, NoMemory}
use Rattle.zone_text.specs.declared.separator.Separator.TheVariants.{Newline}
use Rattle.zone_text.specs.Fields.{and_then}
use Rattle.zone_text.specs.Pieces.{separates, lines}
use Rattle.zone_text.specs.Scripts.{Content, content, nothing, with_line, with_lines, text_meaning, Tells}
use Rattle.zone_text.proofs.Cutting.{split_is}
use Rattle.zone_text.proofs.script.parse.Goals as goal

-- an empty line adds nothing
one_empty : (n : ℕ) (s : Content) (ls : List (List ℕ)) → with_lines n s (ls ++ [] ∷ []) ≡ with_lines n s ls
one_empty n s [] = refl
one_empty n s (l ∷ ls) = λ i. and_then (with_line n s l) (λ t. one_empty (n + 1) t ls i)

abbrev split_lines : List ℕ → List (List ℕ)
split_lines text = slice_split (separates Newline) text

whole : (text : List ℕ) → with_lines 1 nothing (split_lines text) ≡ text_meaning text
whole text = elim (split_is (separates Newline) text) [ inl e ↦ ap (with_lines 1 nothing) e | inr e ↦ ap (with_lines 1 nothing) e ∙ one_empty 1 nothing (lines text) ]

-- line i is added to the lines before it, and then come the others
module _ (text : List ℕ) (i : ℕ) (s : Content) (index : ℕ) (line : List ℕ) (inv : with_lines (i + 1) s (drop i (split_lines text)) ≡ text_meaning text) (turn : (i < length (enumerate_from 0 (split_lines text))) × ((index, line) ≡ get_or (enumerate_from 0 (split_lines text)) i (index, line))) where
  below : i < length (split_lines text)
  below = omega (arith, turn.0, length-enumerate_from 0 (split_lines text))

  at : (index ≡ i) × (line ≡ get_or (split_lines text) i line)
  at = let e = turn.1 ∙ get_or-enumerate_from 0 (split_lines text) i (index, line) below in (ap (λ (p : ℕ × List ℕ). p.0) e ∙ zero-add i, ap (λ (p : ℕ × List ℕ). p.1) e)

  in_front : and_then (with_line (index + 1) s line) (λ t. with_lines (i + 1 + 1) t (drop (i + 1) (split_lines text))) ≡ text_meaning text
  in_front =
      let e : with_lines (i + 1) s (drop i (split_lines text)) ≡ with_lines (i + 1) s (get_or (split_lines text) i line ∷ drop (i + 1) (split_lines text)) = at_drop_more (with_lines (i + 1) s) (split_lines text) i line below in
      (λ k. and_then (with_line (at.0 k + 1) s (at.1 k)) (λ t. with_lines (i + 1 + 1) t (drop (i + 1) (split_lines text)))) ∙ sym e ∙ inv

  after_good : (t : Content) → with_line (index + 1) s line ≡ Ok t → with_lines (i + 1 + 1) t (drop (i + 1) (split_lines text)) ≡ text_meaning text
  after_good t good = sym (ap (λ r. and_then r (λ t. with_lines (i + 1 + 1) t (drop (i + 1) (split_lines text)))) good) ∙ in_front

  at_bad : (e : ParseError) → Tells e (with_line (index + 1) s line) → Tells e (text_meaning text)
  at_bad (Line bad) h = sym in_front ∙ ap (λ r. and_then r (λ t. with_lines (i + 1 + 1) t (drop (i + 1) (split_lines text)))) h
  at_bad NoMemory h = tt

pub loop-index-init : goal.loop-index-init
loop-index-init c = ap (λ calls. with_lines 1 (record { setting = None; calls = calls }) (split_lines c.args.text.now)) c.new.ensures.items ∙ whole c.args.text.now

pub loop-index-preserved : goal.loop-index-preserved
loop-index-preserved c =
    let turn = YieldsList-turn (YieldsList-at c.into_iter-index-iterator.ensures.into_iter_gives (YieldsList-from_enumerate (YieldsList-at c.enumerate-index-items.ensures.source (YieldsList-from_slice_split _ (separates Newline) c.args.text.now c.split-lines.ensures.rest c.split-lines.ensures.done c.split-lines.ensures.closure (λ x b q k. search (rules, tests)))) c.enumerate-index-items.ensures.count)) c.loop-index.yielded _ c.loop-index.yielded_by _ _ (c.in-Some.index, c.in-Some.line) (cc) c.next.ensures.steps in
    let more = length_push c.loop-index.yielded (c.in-Some.index, c.in-Some.line) in
    rw more (after_good c.args.text.now _ _ _ _ c.loop-index.invariant turn _ c.in_ok-add_line.ensures)

pub returns-in_err-add_line : goal.returns-in_err-add_line
returns-in_err-add_line c =
    let turn = YieldsList-turn (YieldsList-at c.into_iter-index-iterator.ensures.into_iter_gives (YieldsList-from_enumerate (YieldsList-at c.enumerate-index-items.ensures.source (YieldsList-from_slice_split _ (separates Newline) c.args.text.now c.split-lines.ensures.rest c.split-lines.ensures.done c.split-lines.ensures.closure (λ x b q k. search (rules, tests)))) c.enumerate-index-items.ensures.count)) c.loop-index.yielded _ c.loop-index.yielded_by _ _ (c.in-Some.index, c.in-Some.line) (cc) c.next.ensures.steps in
    let p = err_from_is_err_and c.from_residual.result c.from_residual.ensures.1 in
    rw (p.1, p.2) (at_bad c.args.text.now _ _ _ _ c.loop-index.invariant turn _ c.in_err-add_line.ensures)

pub returns : goal.returns
returns c =
    let end = YieldsList-end (YieldsList-at c.into_iter-index-iterator.ensures.into_iter_gives (YieldsList-from_enumerate (YieldsList-at c.enumerate-index-items.ensures.source (YieldsList-from_slice_split _ (separates Newline) c.args.text.now c.split-lines.ensures.rest c.split-lines.ensures.done c.split-lines.ensures.closure (λ x b q k. search (rules, tests)))) c.enumerate-index-items.ensures.count)) c.loop-index.yielded _ c.loop-index.yielded_by _ _ c.in-None.is c.next.ensures.steps in
    let all : length (split_lines c.args.text.now) ≤ length c.loop-index.yielded = omega (arith, end.1, length-enumerate_from 0 (split_lines c.args.text.now)) in
    sym c.loop-index.invariant ∙ at_drop_all (with_lines (length c.loop-index.yielded + 1) (content c.loop-index.script)) (split_lines c.args.text.now) (length c.loop-index.yielded) all
