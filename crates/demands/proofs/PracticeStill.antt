-- What a call on one file comes to, a call on another that is answered alike comes to. Assumes nothing.
use mathlib.Core.Path.{sym}
use mathlib.Core.List.{List}
use Prim.Native.Nat.{ℕ}
use Rattle.answers.specs.Verdict.{Meets}
use Rattle.box_rules.specs.Box.{alike, box_bytes}
use Rattle.demands.specs.Cases.{lpts}
use Rattle.demands.specs.Practice.{AnsweredAlike, dots, Answers}

-- what a call on one file comes to, a call on another that is answered alike comes to
pub still : (file file' : List ℕ) (number place : ℕ) (left : List ℕ) → Meets 0 (box_bytes file lpts 1 6) dots left (record { number = number; place = place; second = 0 })
    → AnsweredAlike lpts 1 file file' → Answers file' number place left
still file file' number place left m alike after answer m' =
    let s = alike dots left after _ answer m m' in
    (sym s.number, sym s.place, sym s.second, sym s.bytes)
