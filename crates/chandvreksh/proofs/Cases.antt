-- Document 01's cases that are marked P: one statement over the whole table, by computation.
use mathlib.Core.Path.{◌≡◌, refl}
use mathlib.Core.List.{map}
use lib.ListN.{length}
use Rattle.wire.specs.Big.{big, bytes_of}
use Rattle.group.specs.Group.{bit_set, member_in}
use Rattle.table.specs.Slices.{cells_of}
use Rattle.rule.specs.Round.{through, least, giving, before, first, chosen, new_dist, parent_at, asked, new_mark, new_cell, at, numbered, round, arcs_of, net_of}
use Rattle.park.specs.ParkFile.{park_in, field, link_bytes, state_bytes, encode, with_state}
use Rattle.answers.specs.Verdicts.{unless, ◌then◌}
use Rattle.park.specs.Reading.{field_at, bounds_of, head_in, link_at, links_from, links_in, bits_clear, group_in, state_in, end_in, verdict_of, links_read, cells_read, file_in, check_of}
use Rattle.writer.specs.Made.{numbers, made, state_made, group_made, links_made, file_of}
use Rattle.area.specs.Area.{room_for, area_with}
use Rattle.writer.specs.Write.{write_verdict, write_of}
use Rattle.table.specs.Same.{same_numbers}
use Rattle.round.specs.Run.{quiet, run_of}
use Rattle.run.specs.Run.{ready_for, end_of, run_verdict, run_file, run_answer}
use Rattle.links.specs.Neighbours.{hears, neighbour}
use Rattle.way.specs.Way.{followed, way_of, park_way, way_verdict, way_answer}
use Rattle.chandvreksh.specs.Cases.{Row, told, rows, bytes_a}

pub cases_right : map (λ (r : Row). told r.ask) rows ≡ map (λ (r : Row). r.answer) rows
unfolding big bytes_of bit_set member_in cells_of numbers made state_made group_made links_made file_of write_verdict write_of through least giving before first chosen new_dist parent_at asked new_mark new_cell at numbered round arcs_of net_of park_in field link_bytes state_bytes encode with_state unless ◌then◌ field_at bounds_of head_in link_at links_from links_in bits_clear group_in state_in end_in verdict_of links_read cells_read file_in check_of room_for area_with same_numbers quiet run_of end_of ready_for run_verdict run_file run_answer hears neighbour followed way_of park_way way_verdict way_answer
cases_right = refl

pub bytes_a_length : length bytes_a ≡ 81
bytes_a_length = refl
