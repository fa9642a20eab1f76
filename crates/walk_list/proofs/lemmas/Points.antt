-- Every point of four signed 32-bit numbers has one rank below the top one, and every such rank is one's: SPEC, "Walk". Point order, by a, then
-- b, c, d as signed numbers, is the order of ranks.
pub use Rattle.ring_points.specs.Points.{Fits32, point-ext, digits_rank, rank-point, point-rank, rank_of_below, PointBefore, first, second, third, fourth, digit-mono, point-order}
