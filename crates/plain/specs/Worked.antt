-- Worked histories, to be held against the definitions: what a run's events and answers tell, and what its cells hold.
use Rattle.std.specs.Prelude.{ℕ, ◌≡◌, List, [], ◌∷◌, ◌++◌, map, replicate}
use Rattle.geometry.specs.declared.Part.TheVariants.{Small}
use Rattle.plain.specs.declared.Array.TheVariants.{Main, OneTime}
use Rattle.plain.specs.Rows.{laid, blank, enters, program_of, erase_of, chip_erase_of, dyb_of}
use Rattle.plain.specs.Refusals.{number}
use Rattle.plain.specs.Events.{Event, read, write, wait, cut, Turn}
use Rattle.plain.specs.Lent.{word_at}
use Rattle.plain.specs.Programs.{writing}
use Rattle.plain.specs.Record.{fresh}
use Rattle.plain.specs.Machine.{Ran, run}
use Rattle.plain.specs.History.{Told, history}
use Rattle.plain.specs.Holds.{Fact, program_done, erase_done, program_cut, erase_cut}

-- the refusals in order, the facts (the latest first), the words at some addresses, clock and charge
pub record Tale : Type 0 where
  pub refusals : List ℕ
  pub facts : List Fact
  pub words : List ℕ
  pub clock : ℕ
  pub charge : ℕ

abbrev pub tale : List ℕ → List Fact → List ℕ → ℕ → ℕ → Tale
tale n f w c q = record { refusals = n; facts = f; words = w; clock = c; charge = q }

-- a run over blank cells of the small part, the addresses looked at afterwards, and what it comes to
pub record Work : Type 0 where
  pub events : List Event
  pub addresses : List ℕ
  pub stated : Tale

abbrev pub work : List Event → List ℕ → Tale → Work
work es at t = record { events = es; addresses = at; stated = t }

-- facts, clock and charge are the history's; refusals and words the run's
abbrev pub tells : Ran → Told → List ℕ → Tale
tells r h at = tale (map (λ (t : Turn). number t.refusal) r.turns) h.facts (map (word_at r.lent Main) at) h.clock h.charge

abbrev pub worked : Work → Tale
worked w = tells (run Small fresh (laid blank) w.events) (history Small (run Small fresh (laid blank) w.events).turns) w.addresses

-- ---- commands that are taken, of four writes and of six

abbrev four : List ℕ
four = 0 ∷ 0 ∷ 0 ∷ 0 ∷ []

abbrev six : List ℕ
six = 0 ∷ 0 ∷ 0 ∷ 0 ∷ 0 ∷ 0 ∷ []

-- row b's program is finished
abbrev finished : Work
finished = work (program_of 100 0x1234 ++ (wait 6 ∷ [])) (100 ∷ []) (tale (four ++ (0 ∷ [])) (program_done (writing Main 100 0x1234) ∷ []) (0x1234 ∷ []) 6 102000)

-- writes in the middle are BUSY and change nothing, B0H too
abbrev busy : Work
busy =
    work (program_of 100 0x1234 ++ (wait 3 ∷ write 0 0xF0 ∷ write 0 0xB0 ∷ wait 3 ∷ [])) (100 ∷ [])
    (tale (four ++ (0 ∷ 6 ∷ 6 ∷ 0 ∷ [])) (program_done (writing Main 100 0x1234) ∷ []) (0x1234 ∷ []) 6 102000)

-- a suspended and resumed erase counts only its progress: 100,000 and 600,000 µs, and not the 20 µs of its recovery
abbrev resumed : Work
resumed =
    work (program_of 64 0 ++ (wait 6 ∷ []) ++ erase_of 64 ++ (wait 100050 ∷ write 0 0xB0 ∷ wait 1000000 ∷ write 0 0x30 ∷ wait 599999 ∷ read 64 ∷ wait 1 ∷ [])) (64 ∷ [])
    (tale (four ++ (0 ∷ []) ++ six ++ (0 ∷ 0 ∷ 0 ∷ 0 ∷ 0 ∷ 0 ∷ 0 ∷ [])) (erase_done 8 ∷ program_done (writing Main 64 0) ∷ []) (0xFFFF ∷ []) 1700056 11915442450)

-- stopped 1 µs before its end it does not end in the recovery, which draws 340,000 pC; resumed, it ends after that 1 µs
abbrev stopped : Work
stopped =
    work (program_of 64 0 ++ (wait 6 ∷ []) ++ erase_of 64 ++ (wait 700049 ∷ write 0 0xB0 ∷ wait 1000 ∷ write 0 0x30 ∷ wait 1 ∷ [])) (64 ∷ [])
    (tale (four ++ (0 ∷ []) ++ six ++ (0 ∷ 0 ∷ 0 ∷ 0 ∷ 0 ∷ [])) (erase_done 8 ∷ program_done (writing Main 64 0) ∷ []) (0xFFFF ∷ []) 701056 11900457450)

-- a cut in the recovery, after 5 µs of it: with 1 µs of progress the erase had begun ..
abbrev cut_recovering : Work
cut_recovering =
    work (program_of 64 0 ++ (wait 6 ∷ []) ++ erase_of 64 ++ (wait 51 ∷ write 0 0xB0 ∷ wait 5 ∷ cut (replicate 64 0xAAAA) ∷ [])) (64 ∷ [])
    (tale (four ++ (0 ∷ []) ++ six ++ (0 ∷ 0 ∷ 0 ∷ 0 ∷ [])) (erase_cut 8 (replicate 64 0xAAAA) ∷ program_done (writing Main 64 0) ∷ []) (0xAAAA ∷ []) 62 204750)

-- .. and with none it had not, though it drew the running current for those 5 µs
abbrev cut_unbegun : Work
cut_unbegun =
    work (program_of 64 0 ++ (wait 6 ∷ []) ++ erase_of 64 ++ (wait 50 ∷ write 0 0xB0 ∷ wait 5 ∷ cut [] ∷ [])) (64 ∷ [])
    (tale (four ++ (0 ∷ []) ++ six ++ (0 ∷ 0 ∷ 0 ∷ 0 ∷ [])) (program_done (writing Main 64 0) ∷ []) (0 ∷ []) 61 187750)

-- a window dropped by SEQUENCE never finishes
abbrev abandoned : Work
abandoned =
    work (program_of 64 0 ++ (wait 6 ∷ []) ++ erase_of 64 ++ (wait 10 ∷ write 0 0xAA ∷ wait 800000 ∷ [])) (64 ∷ [])
    (tale (four ++ (0 ∷ []) ++ six ++ (0 ∷ 7 ∷ 0 ∷ [])) (program_done (writing Main 64 0) ∷ []) (0 ∷ []) 800016 12102150)

-- a chip erase passes over a protected block: block 0 has its DYB set, so blocks 1 and 2 come first
abbrev chip_over : Work
chip_over =
    work
    (program_of 0 0 ++ (wait 6 ∷ []) ++ dyb_of 0 1 ++ chip_erase_of ++ (wait 1000000 ∷ []))
    (0 ∷ [])
    (tale (four ++ (0 ∷ []) ++ four ++ six ++ (0 ∷ [])) (erase_done 2 ∷ erase_done 1 ∷ program_done (writing Main 0 0) ∷ []) (0 ∷ []) 1000006 17000102000)

-- ---- the auditor's question: a cut during a program inside a suspended erase, and what comes after

abbrev pub debris : List ℕ
debris = replicate 63 0xAAAA ++ (0xBBBB ∷ 0xFF00 ∷ [])

-- 5678H at 300 is finished. Block 0 gets its PPB, and an erase of it is refused. The erase of block 8 (words 64 to 127) runs for
-- 300,000 µs and is stopped for 1,000, of which 20 are its recovery; 1234H at 200 runs inside it for 5 µs. Then the power is cut
abbrev pub flat : List Event
flat =
    program_of 300 0x5678 ++ (wait 6 ∷ []) ++ enters 0x60 ++ (write 0 0x68 ∷ write 0 0x48 ∷ []) ++ erase_of 0 ++ erase_of 64
    ++ (wait 300050 ∷ write 0 0xB0 ∷ wait 1000 ∷ []) ++ program_of 200 0x1234 ++ (wait 5 ∷ cut debris ∷ [])

abbrev flat_refusals : List ℕ
flat_refusals = four ++ (0 ∷ []) ++ (0 ∷ 0 ∷ 0 ∷ 0 ∷ 0 ∷ []) ++ (0 ∷ 0 ∷ 0 ∷ 0 ∷ 0 ∷ 9 ∷ []) ++ six ++ (0 ∷ 0 ∷ 0 ∷ []) ++ four ++ (0 ∷ 0 ∷ [])

abbrev looked : List ℕ
looked = 63 ∷ 64 ∷ 126 ∷ 127 ∷ 128 ∷ 199 ∷ 200 ∷ 201 ∷ 300 ∷ []

abbrev pub cut_flat : Work
cut_flat =
    work flat looked
    (tale flat_refusals (program_cut (writing Main 200 0x1234) (0xFF00 ∷ []) ∷ erase_cut 8 debris ∷ program_done (writing Main 300 0x5678) ∷ [])
    (0xFFFF ∷ 0xAAAA ∷ 0xAAAA ∷ 0xBBBB ∷ 0xFFFF ∷ 0xFFFF ∷ 0xFF34 ∷ 0xFFFF ∷ 0x5678 ∷ []) 301061 5100542450)

-- after that cut the PPB still protects block 0, a further program is finished, and a second cut needs no debris
abbrev second_cut : Work
second_cut =
    work (flat ++ erase_of 0 ++ program_of 201 0x0F0F ++ (wait 6 ∷ cut [] ∷ [])) looked
    (tale (flat_refusals ++ (0 ∷ 0 ∷ 0 ∷ 0 ∷ 0 ∷ 9 ∷ []) ++ four ++ (0 ∷ 0 ∷ []))
    (program_done (writing Main 201 0x0F0F) ∷ program_cut (writing Main 200 0x1234) (0xFF00 ∷ []) ∷ erase_cut 8 debris ∷ program_done (writing Main 300 0x5678) ∷ [])
    (0xFFFF ∷ 0xAAAA ∷ 0xAAAA ∷ 0xBBBB ∷ 0xFFFF ∷ 0xFFFF ∷ 0xFF34 ∷ 0x0F0F ∷ 0x5678 ∷ []) 301067 5100644450)

-- document 02, request 4: in the one-time block a word is programmed and the next one cut off, and the cells are left alone; what is told
-- after the cut is of cells again
abbrev one_time : Work
one_time =
    work (enters 0x88 ++ program_of 128 0x1234 ++ (wait 6 ∷ []) ++ program_of 129 0x0F0F ++ (wait 5 ∷ cut (0xFF00 ∷ []) ∷ []) ++ program_of 129 0x5678 ++ (wait 6 ∷ []))
    (128 ∷ 129 ∷ [])
    (tale ((0 ∷ 0 ∷ 0 ∷ []) ++ four ++ (0 ∷ []) ++ four ++ (0 ∷ 0 ∷ []) ++ four ++ (0 ∷ []))
    (program_done (writing Main 129 0x5678) ∷ program_cut (writing OneTime 129 0x0F0F) (0xFF00 ∷ []) ∷ program_done (writing OneTime 128 0x1234) ∷ []) (0xFFFF ∷ 0x5678 ∷ []) 17 289000)

abbrev pub tales : List Work
tales = finished ∷ busy ∷ resumed ∷ stopped ∷ cut_recovering ∷ cut_unbegun ∷ abandoned ∷ chip_over ∷ cut_flat ∷ second_cut ∷ one_time ∷ []

-- each tells what is stated
abbrev pub AsTold : List Work → Type 0
AsTold ws = map worked ws ≡ map (λ (w : Work). w.stated) ws
