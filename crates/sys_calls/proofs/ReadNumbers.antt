-- Which numbers are those of reads.
use Rattle.std.proofs.Common.{◌≡◌, ℕ, refl, Bool, true, false, true≢false, cond, eqb, None}
use Rattle.proc_state.specs.State.{ProcState}
use Rattle.sys_calls.specs.Calls.{ExitCall, Write, Read, ReadAny, ForkCall, GetPid, Handler, Kill, SigReturn, Close, Unknown, call_of, reading_of}

other_number : (p : ProcState) (a b c d f g h i j k : Bool) → c ≡ false → d ≡ false
    → reading_of (cond a ExitCall (cond b Write (cond c Read (cond d ReadAny (cond f ForkCall (cond g GetPid (cond h Handler (cond i Kill (cond j SigReturn (cond k Close Unknown)))))))))) p ≡ None
other_number p true b c d f g h i j k three four = refl
other_number p false true c d f g h i j k three four = refl
other_number p false false true d f g h i j k three four = absurd (true≢false three)
other_number p false false false true f g h i j k three four = absurd (true≢false four)
other_number p false false false false true g h i j k three four = refl
other_number p false false false false false true h i j k three four = refl
other_number p false false false false false false true i j k three four = refl
other_number p false false false false false false false true j k three four = refl
other_number p false false false false false false false false true k three four = refl
other_number p false false false false false false false false false true three four = refl
other_number p false false false false false false false false false false three four = refl

-- the reads are the calls 3 and 4
pub other_reads_none : (p : ProcState) (n : ℕ) → eqb n 3 ≡ false → eqb n 4 ≡ false → reading_of (call_of n) p ≡ None
other_reads_none p n three four = other_number p (eqb n 1) (eqb n 2) (eqb n 3) (eqb n 4) (eqb n 5) (eqb n 6) (eqb n 7) (eqb n 8) (eqb n 9) (eqb n 10) three four
