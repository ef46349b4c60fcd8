-- The workload keeps the rules of a system.
use Rattle.std.proofs.Common.{◌≡◌, refl, ℕ, true, arith}
use Rattle.std.proofs.lemmas.Bool.Decides.{nat_tests}
use Rattle.sys_text.specs.Valid.{is_system, is_word}
use Rattle.workload.specs.Ring.{is_size, workload}
use Rattle.workload.proofs.Assembled.{rounds_word, head_words_are, link_words_are}

pub keeps_rules : (size : ℕ) → is_size size ≡ true → is_system (workload size) ≡ true
unfolding workload
keeps_rules size e =
    let fits : is_word (rounds_word size) ≡ true = grind (arith, nat_tests, e) in
    rw (head_words_are size e, link_words_are, fits) refl
